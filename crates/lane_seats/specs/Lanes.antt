-- Laned histories: of each kind of call the sessions are served one after another, and notifications are received at the lowest free seat.
use Rattle.std.specs.Prelude.{◌≡◌, ℕ, ◌<◌, ◌≤◌, Bool, true, false, ◌&&◌, if◌then◌else◌, List, [], ◌∷◌, length, Option, Some}
use Rattle.std.specs.Prelude.{None, ℤ}
use Rattle.hist_model.specs.Kinds.{starts}
use Rattle.hist_model.specs.Legal.{is_open_session}
use Rattle.hist_model.specs.Look.{is_worker}
use Rattle.hist_model.specs.Sessions.{notif_of, session}
use Rattle.hist_model.specs.declared.event.Actor.{Actor}
use Rattle.hist_model.specs.declared.event.Actor.TheVariants.{Worker}
use Rattle.hist_model.specs.declared.event.Event.{Event}
use Rattle.call_table.specs.Table.{lane_by_row, row_of}
use Rattle.sys_abi.specs.declared.wire.Notif.{Notif}

-- the lane of a call's number, as its row has it
abbrev pub lane_of_call : ℤ → ℕ
lane_of_call nr = lane_by_row (row_of nr)

abbrev pub lane_of_notif : Option Notif → ℕ
lane_of_notif None = 5
lane_of_notif (Some n) = lane_of_call n.call.nr

-- the worker has received a notification, and not let go since
abbrev pub is_taken : List Event → ℕ → Bool
is_taken K seat = is_open_session (session K seat)

-- the lane of the notification that the worker received last
abbrev pub lane : List Event → ℕ → ℕ
lane K seat = lane_of_notif (notif_of (session K seat))

-- the place of the worker's last receive that answered Ok
unfoldable pub taken_at : List Event → ℕ → ℕ
taken_at [] seat = 0
taken_at (e ∷ K) seat = if is_worker e.who seat && starts e.what then length K else taken_at K seat

-- no session of the worker's lane goes on that began before its own
abbrev pub IsNext : List Event → ℕ → Type 0
IsNext K seat = (other : ℕ) → is_taken K other ≡ true → lane K other ≡ lane K seat → taken_at K seat ≤ taken_at K other

-- it is the least worker number, of 0 to 15, without a session that goes on
abbrev pub IsLowestFree : List Event → ℕ → Type 0
IsLowestFree K seat = (seat ≤ 15) × (is_taken K seat ≡ false) × ((lower : ℕ) → lower < seat → is_taken K lower ≡ true)

-- a worker inside a session takes a turn where it is its lane's next, and one outside, which can only receive,
-- where it has the lowest free seat
abbrev pub MayTurn : List Event → ℕ → Bool → Type 0
MayTurn K seat true = IsNext K seat
MayTurn K seat false = IsLowestFree K seat

abbrev pub KeepsLanes : List Event → Actor → Type 0
KeepsLanes K (Worker seat) = MayTurn K seat (is_taken K seat)
KeepsLanes K _ = Unit {0}

-- each event of a worker comes where its turn keeps the lanes
abbrev pub Laned : List Event → Type 0
Laned [] = Unit {0}
Laned (e ∷ K) = KeepsLanes K e.who × Laned K
