-- Small histories that are laned, and two that aren't: whether they are legal is not asked.
use Rattle.std.specs.Prelude.{ℕ, List, [], ◌∷◌, Ok, pos}
use Rattle.hist_model.specs.Look.{ev}
use Rattle.hist_model.specs.declared.event.Actor.TheVariants.{Worker}
use Rattle.hist_model.specs.declared.event.Event.{Event}
use Rattle.hist_model.specs.declared.event.What.TheVariants.{LetGo, OpenMem, Recv}
use Rattle.lane_seats.specs.Lanes.{Laned}
use Rattle.sys_abi.specs.Calls.{nr_mknod, nr_mount}
use Rattle.sys_abi.specs.declared.wire.Notif.{Notif}

-- the notification with an id, of a call with a number
abbrev pub notif : ℕ → ℕ → Notif
notif id nr = record { id = id; pid = id; flags = 0; call = record { nr = pos nr; arch = 0; ip = 0; args = [] } }

abbrev pub receives : ℕ → ℕ → ℕ → Event
receives seat id nr = ev (Worker seat) (Recv (Ok (notif id nr)))

abbrev pub opens : ℕ → ℕ → Event
opens seat id = ev (Worker seat) (OpenMem id (Ok tt))

abbrev pub lets_go : ℕ → Event
lets_go seat = ev (Worker seat) LetGo

-- two mknods are received, at seats 0 and 1, and the first is served
abbrev pub first_served : List Event
first_served = lets_go 0 ∷ opens 0 1 ∷ receives 1 2 nr_mknod ∷ receives 0 1 nr_mknod ∷ []

-- then the second is served, or a third is received at seat 0
abbrev pub InOrder : Type 0
InOrder = Laned (lets_go 1 ∷ opens 1 2 ∷ first_served) × Laned (opens 1 2 ∷ receives 0 3 nr_mount ∷ first_served)

-- a mknod and a mount are served side by side
abbrev pub SideBySide : Type 0
SideBySide = Laned (lets_go 0 ∷ lets_go 1 ∷ opens 0 1 ∷ opens 1 2 ∷ receives 1 2 nr_mount ∷ receives 0 1 nr_mknod ∷ [])

-- the second of two mknods is served while the first goes on
abbrev pub Overlap : Type 0
Overlap = Laned (opens 1 2 ∷ receives 1 2 nr_mknod ∷ receives 0 1 nr_mknod ∷ []) → ⊥

-- a notification is received at seat 2 while seat 0 is free
abbrev pub OtherSeat : Type 0
OtherSeat = Laned (receives 2 3 nr_mknod ∷ first_served) → ⊥

-- and the first of all at seat 1
abbrev pub FirstSeat : Type 0
FirstSeat = Laned (receives 1 1 nr_mknod ∷ []) → ⊥
