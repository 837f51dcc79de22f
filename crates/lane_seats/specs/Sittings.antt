-- What a table of seats says of a history.
use Rattle.std.specs.Prelude.{◌≡◌, ℕ, ◌≤◌, ◌==◌, ◌&&◌, nat_lt, Bool, true, false, List, get_or, length, Option, Some, None, Ok}
use Rattle.std.specs.Option.{option_map}
use Rattle.hist_model.specs.Sessions.{notif_of, session}
use Rattle.hist_model.specs.declared.event.Event.{Event}
use Rattle.hist_model.specs.declared.event.What.{What}
use Rattle.hist_model.specs.declared.event.What.TheVariants.{LetGo, Recv}
use Rattle.lane_seats.specs.Lanes.{IsLowestFree, IsNext, is_taken, lane, lane_of_call, taken_at}
use Rattle.lane_seats.specs.declared.seats.Change.{Change}
use Rattle.lane_seats.specs.declared.seats.Change.TheVariants.{Leaves, Stays, Takes}
use Rattle.lane_seats.specs.declared.seats.Sitting.{Sitting}
use Rattle.sys_abi.specs.declared.wire.Notif.{Notif}

-- the id of the notification that the worker received last
abbrev pub id_at : List Event → ℕ → Option ℕ
id_at K seat = option_map (λ (n : Notif). n.id) (notif_of (session K seat))

-- the seat is free, or its session goes on, is of this lane, began there and is of the notification with this id
abbrev pub Sits : List Event → ℕ → Option Sitting → Type 0
Sits K seat None = is_taken K seat ≡ false
Sits K seat (Some s) = (is_taken K seat ≡ true) × (lane K seat ≡ s.lane) × (taken_at K seat ≡ s.since) × (id_at K seat ≡ Some s.id)

-- there are seats 0 to 15, and each entry says how its seat is; no other is taken
pub record StandsFor (K : List Event) (seats : List (Option Sitting)) : Type 0 where
  pub number : length seats ≡ 16
  pub each : (seat : ℕ) → Sits K seat (get_or seats seat None)

-- the entry's session is of the other's lane, and began before it
abbrev pub comes_before : Option Sitting → Sitting → Bool
comes_before None own = false
comes_before (Some s) own = (s.lane == own.lane) && nat_lt s.since own.since

-- what a step of a worker, the event at a place, makes of its seat
abbrev pub change_of : What → ℕ → Change
change_of (Recv (Ok n)) place = Takes (record { lane = lane_of_call n.call.nr; since = place; id = n.id })
change_of LetGo place = Leaves
change_of _ place = Stays

-- where it stands for a history, the answer is its lowest free seat, or no seat is free
abbrev pub FindsFree : List (Option Sitting) → Option ℕ → Type 0
FindsFree seats (Some seat) = (K : List Event) → StandsFor K seats → IsLowestFree K seat
FindsFree seats None = (K : List Event) → StandsFor K seats → (seat : ℕ) → seat ≤ 15 → is_taken K seat ≡ true

-- where it stands for a history, the seat is taken and its lane's next, or isn't both
abbrev pub FindsNext : List (Option Sitting) → ℕ → Bool → Type 0
FindsNext seats seat true = (K : List Event) → StandsFor K seats → (is_taken K seat ≡ true) × IsNext K seat
FindsNext seats seat false = (K : List Event) → StandsFor K seats → is_taken K seat ≡ true → IsNext K seat → ⊥

-- where it stands for a history, the notification with this id is in hand at the seat, or isn't
abbrev pub FindsHeld : List (Option Sitting) → ℕ → ℕ → Bool → Type 0
FindsHeld seats seat id true = (K : List Event) → StandsFor K seats → (is_taken K seat ≡ true) × (id_at K seat ≡ Some id)
FindsHeld seats seat id false = (K : List Event) → StandsFor K seats → is_taken K seat ≡ true → id_at K seat ≡ Some id → ⊥
