-- Steps that are taken in turn: none is a Skip.
use Rattle.std.specs.Prelude.{◌≡◌, ◌⊎◌, ℕ, true, false, List, Option, Some, Ok}
use Rattle.hist_model.specs.Deeds.{Deed}
use Rattle.hist_model.specs.Legal.{system_of}
use Rattle.hist_model.specs.Look.{Name}
use Rattle.hist_model.specs.Steps.{deed_step, mem, task_step}
use Rattle.hist_model.specs.Tasks.{ended, is_made}
use Rattle.hist_model.specs.declared.event.Actor.TheVariants.{Task, Worker}
use Rattle.hist_model.specs.declared.event.Event.{Event}
use Rattle.hist_model.specs.declared.event.What.TheVariants.{Plant}
use Rattle.hist_model.specs.declared.policy.Cap.{Cap}
use Rattle.hist_model.specs.declared.script.Script.{Script}
use Rattle.listener.specs.Sound as call_sound
use Rattle.tasks.specs.Sound as task_sound

-- the event is the step of a task that lives
pub record IsTaskTurn (S : Script) (K : List Event) (e : Event) : Type 0 where
  pub name : Name
  pub who : e.who ≡ Task name
  pub made : is_made K name ≡ true
  pub lives : ended K name ≡ false
  pub step : e.what ≡ task_step (system_of S) K name

-- the event is what the kernel answers to a worker, which has a memory open where it stores bytes
pub record IsWorkerTurn (S : Script) (K : List Event) (e : Event) : Type 0 where
  pub worker : ℕ
  pub who : e.who ≡ Worker worker
  pub deed : Deed
  pub step : e.what ≡ deed_step (system_of S) K worker deed
  pub opened : (a : ℕ) (bytes : List ℕ) (cap : Option Cap) → e.what ≡ Plant a bytes cap (Ok tt)
      → (g : ℕ) × (mem K worker ≡ Some g)

-- the event is a step of the tasks and of the calls, as their tables know them
pub record IsTableStep (S : Script) (K : List Event) (e : Event) : Type 0 where
  pub tasks : task_sound.IsStep S K e
  pub calls : call_sound.IsStep S.firstid K e e.what

-- the event comes after a history as a turn
pub record IsTurn (S : Script) (K : List Event) (e : Event) : Type 0 where
  pub turn : IsTaskTurn S K e ⊎ IsWorkerTurn S K e
  pub table : IsTableStep S K e
