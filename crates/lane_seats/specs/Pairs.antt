-- Laned histories by pairs of sessions and by receives: which steps of a history stand before which others.
use Rattle.std.specs.Prelude.{◌≡◌, ℕ, ◌<◌, ◌≤◌, List, Some, Result, Ok}
use Rattle.hist_model.specs.Look.{ev, event_at}
use Rattle.hist_model.specs.declared.event.Actor.TheVariants.{Worker}
use Rattle.hist_model.specs.declared.event.Event.{Event}
use Rattle.hist_model.specs.declared.event.What.{What}
use Rattle.hist_model.specs.declared.event.What.TheVariants.{LetGo, Recv}
use Rattle.lane_seats.specs.Lanes.{lane_of_call}
use Rattle.sys_abi.specs.declared.wire.Notif.{Notif}

-- the event at this place is this step of the worker
abbrev pub Steps : List Event → ℕ → ℕ → What → Type 0
Steps H place seat what = event_at H place ≡ Some (ev (Worker seat) what)

-- the worker lets go after the one place and before the other
abbrev pub LetsGoBetween : List Event → ℕ → ℕ → ℕ → Type 0
LetsGoBetween H seat from until = (place : ℕ) × (from < place) × (place < until) × Steps H place seat LetGo

-- a step of the worker at the later place is of the session that it began at the earlier one, and isn't its receive
abbrev pub IsOfSession : List Event → ℕ → ℕ → ℕ → Type 0
IsOfSession H seat began place = (began < place) × (LetsGoBetween H seat began place → ⊥)

-- of two sessions of one lane, the one that was received first has let go before each step of the other but its receive
abbrev pub FollowEachOther : List Event → Type 0
FollowEachOther H =
    (first second place seat other : ℕ) (n m : Notif) (what : What) → Steps H first seat (Recv (Ok n))
    → Steps H second other (Recv (Ok m)) → lane_of_call n.call.nr ≡ lane_of_call m.call.nr → first < second
    → Steps H place other what → IsOfSession H other second place → LetsGoBetween H seat first place

-- each session that the worker began before this place has let go before it
abbrev pub HasLetGo : List Event → ℕ → ℕ → Type 0
HasLetGo H seat place = (began : ℕ) (n : Notif) → Steps H began seat (Recv (Ok n)) → began < place → LetsGoBetween H seat began place

-- each receive is by the least worker number, of 0 to 15, of which this holds
abbrev pub ReceiveLowest : List Event → Type 0
ReceiveLowest H =
    (place seat : ℕ) (answer : Result Notif ℕ) → Steps H place seat (Recv answer)
    → (seat ≤ 15) × HasLetGo H seat place × ((lower : ℕ) → lower < seat → HasLetGo H lower place → ⊥)

-- both
pub record LanedByPairs (H : List Event) : Type 0 where
  pub follow : FollowEachOther H
  pub lowest : ReceiveLowest H
