-- The lines of a schedule, the steps that are left at a place of it, and what a turn of it comes to.
use Rattle.std.specs.Prelude.{◌≡◌, ℕ, ◌+◌, ◌-◌, ◌*◌, ◌^◌, ◌<◌, ◌≤◌, true, List, length, drop, Option, Some, None, cond, slice_get}
use Rattle.hist_model.specs.Legal.{with_schedule, with_steps}
use Rattle.hist_model.specs.declared.event.Actor.{Actor}
use Rattle.hist_model.specs.declared.event.Event.{Event}
use Rattle.hist_model.specs.declared.history.Setup.{Setup}
use Rattle.hist_model.specs.declared.script.Script.{Script}
use Rattle.mediation.specs.Scheduled.{IsScheduled}
use Rattle.broker_machine.specs.Serving.{IsFound}
use Rattle.worker_gate.specs.declared.schedule.Line.{Line}
use Rattle.worker_gate.specs.declared.scheduled.Place.{Place}

-- the line is the one at an index of a script's schedule, with all of its steps; its actor may be scheduled, and was found
pub record IsLine (S : Script) (K : List Event) (i : ℕ) (l : Line) : Type 0 where
  pub line : slice_get S.schedule i ≡ Some (record { who = l.who; count = l.left })
  pub scheduled : IsScheduled l.who
  pub found : IsFound K l.who l.task
  pub few : (l.left < 2 ^ 32) × (i + 1 < 2 ^ 64)

-- there is none behind the last one
abbrev pub IsLineAt : Script → List Event → ℕ → Option Line → Type 0
IsLineAt S K i None = length S.schedule ≤ i
IsLineAt S K i (Some l) = IsLine S K i l

-- any worker may be served, the actor may be scheduled, and it was found
abbrev pub MayStep : Setup → List Event → Actor → Option ℕ → Type 0
MayStep made K who task = (made.limit ≡ None) × IsScheduled who × IsFound K who task

-- the actor in hand may be scheduled and was found, and where the schedule is over no step is left
pub record IsPlace (made : Setup) (K : List Event) (p : Place) : Type 0 where
  pub scheduled : IsScheduled p.line.who
  pub found : IsFound K p.line.who p.line.task
  pub over : p.over ≡ true → (p.line.left ≡ 0) × (length made.script.schedule ≤ p.next)

-- a history with the steps that are left at a place: those of the line in hand, and those of the lines behind it
abbrev pub with_rest : Setup → Place → List Event → List Event
with_rest made p K =
    with_schedule made.policy made.script (drop p.next made.script.schedule) (with_steps made.policy made.script p.line.who p.line.left K)

-- how many turns are left at most, where a line has fewer than 2^32 steps
abbrev pub turns_left : Setup → Place → ℕ
turns_left made p = (length made.script.schedule - p.next) * 2 ^ 32 + p.line.left + cond p.over 0 1

-- with the steps that are left then, a history comes to the same as before, and fewer turns are left
pub record Moves (made : Setup) (p : Place) (K : List Event) (q : Place) (H : List Event) : Type 0 where
  pub place : IsPlace made H q
  pub rest : with_rest made q H ≡ with_rest made p K
  pub fewer : turns_left made q < turns_left made p
