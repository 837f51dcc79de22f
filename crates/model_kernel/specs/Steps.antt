-- When a task may take its step, and what the kernel is after it.
use Rattle.std.specs.Prelude.{◌≡◌, ℕ, ◌<◌, ◌^◌, ◌∷◌, true, false, Bool, if◌then◌else◌, Option, Some, Result, Ok, Err, length}
use Rattle.hist_model.specs.Kinds.{ends, skips}
use Rattle.hist_model.specs.Look.{Name, ev}
use Rattle.hist_model.specs.Signals.{call_of, next_signal}
use Rattle.hist_model.specs.Calls.{id, queue, settled}
use Rattle.hist_model.specs.Steps.{deliver_or, install_step, task_step}
use Rattle.hist_model.specs.Tasks.{ended, disposition}
use Rattle.hist_model.specs.declared.event.Actor.TheVariants.{Task, Worker}
use Rattle.hist_model.specs.declared.event.Delivered.{Delivered}
use Rattle.hist_model.specs.declared.event.Entered.{Entered}
use Rattle.hist_model.specs.declared.event.Entered.TheVariants.{Kill, Notify}
use Rattle.hist_model.specs.declared.event.Event.{Event}
use Rattle.hist_model.specs.declared.event.What.{What}
use Rattle.hist_model.specs.declared.event.What.TheVariants.{Skip}
use Rattle.history_frames.specs.Ordinals.{tasks_made, task_name_of}
use Rattle.listener.specs.Stands.{oldest_in}
use Rattle.sys_abi.specs.declared.wire.Addfd.{Addfd}
use Rattle.model_kernel.specs.Stands as resources
use Rattle.tasks.specs.Stands.{effect_of, living_in}
use Rattle.tasks.specs.Stands as tasks
use Rattle.task_groups.specs.State.{one_less}
use Rattle.model_kernel.specs.declared.steps.CannotStep.{CannotStep}
use Rattle.model_kernel.specs.Kernels.{IsAfter, IsKernel, past, system}
use Rattle.model_kernel.specs.declared.kernel.Kernel.{Kernel}

-- the name of the task of an ordinal
abbrev pub named : Kernel → ℕ → Name
named k o = task_name_of (past k) o

-- the step that the task of an ordinal has next
abbrev pub due_step : Kernel → ℕ → What
due_step k o = task_step (system k) (past k) (named k o)

-- the task of this ordinal is alive, and the history can be counted
pub record MayStep (k : Kernel) (o : ℕ) : Type 0 where
  pub kernel : IsKernel k
  pub made : o < tasks_made (past k)
  pub lives : ended (past k) (named k o) ≡ false
  pub few : length (past k) < 2 ^ 64

-- the event of a task's step
abbrev pub step_by : Kernel → ℕ → What → Event
step_by k o w = ev (Task (named k o)) w

-- the tasks and the resources have taken the task's next step, which is this, and the history hasn't
pub record Acts (old : Kernel) (o : ℕ) (w : What) (new : Kernel) : Type 0 where
  pub due : due_step old o ≡ w
  pub steps : skips w ≡ false
  pub rest : new ≡ record old { tasks = new.tasks; resources = new.resources }
  pub tasks : tasks.StandsFor old.script (step_by old o w ∷ past old) new.tasks
  pub resources : resources.StandsFor old.script (step_by old o w ∷ past old) (living_in new.tasks) new.resources
  pub number : tasks_made (step_by old o w ∷ past old) < 2 ^ 32

-- the tables have taken a worker's step, which is this, and the history hasn't
pub record IsServed (old : Kernel) (w : ℕ) (what : What) (new : Kernel) : Type 0 where
  pub rest : new ≡ record old { resources = new.resources }
  pub resources : resources.StandsFor old.script (ev (Worker w) what ∷ past old) (living_in old.tasks) new.resources

-- the task waits in the listed call at a place, which has this id
pub record WaitsIn (k : Kernel) (o c x : ℕ) : Type 0 where
  pub call_is : call_of (past k) (named k o) ≡ Some c
  pub id_is : id (past k) c ≡ x

-- the kernel after the task's next step
abbrev pub TakesStep : Kernel → ℕ → Kernel → Type 0
TakesStep old o new = IsAfter old (step_by old o (due_step old o)) new

-- where the task's next step is one, it was taken; else all is as it was
abbrev pub IsStepped : Kernel → ℕ → Result (Unit {0}) CannotStep → Kernel → Type 0
IsStepped old o (Ok u) new = TakesStep old o new × (skips (due_step old o) ≡ false)
IsStepped old o (Err e) new = (new ≡ old) × (due_step old o ≡ Skip)

-- where the task's next step is one, it was taken; else all is as it was, and the task's name is given back
abbrev pub IsTried : Kernel → ℕ → Result (Unit {0}) Name → Kernel → Type 0
IsTried old o (Ok u) new = TakesStep old o new × (skips (due_step old o) ≡ false)
IsTried old o (Err name) new = (new ≡ old) × (due_step old o ≡ Skip) × (name ≡ named old o)

-- the signal that is due next for a task
abbrev pub signal_due : Kernel → ℕ → Option ℕ
signal_due k o = next_signal k.script.killable (past k) (named k o)

-- what its delivery does to the task, in a listed call or elsewhere
abbrev pub delivered : Kernel → ℕ → Bool → ℕ → Delivered
delivered k o in_call sig = effect_of in_call sig (disposition (past k) (named k o) sig)

-- the task's next step is the delivery of the signal that is due, if one is
abbrev pub IsDeliveredFirst : Kernel → ℕ → Bool → Type 0
IsDeliveredFirst k o in_call = (other : What) × (due_step k o ≡ deliver_or (signal_due k o) (delivered k o in_call) other)

-- how many tasks live in each group after a step of a task of a group
abbrev pub left_by : What → (ℕ → ℕ) → ℕ → ℕ → ℕ
left_by w living group = if ends w then one_less living group else living

-- the filters neither list the call nor kill its task
abbrev pub is_unlisted : Entered → Bool
is_unlisted (Notify id) = false
is_unlisted Kill = false
is_unlisted verdict = true

-- the task waits in the listed call at a place, which isn't settled, and what its oldest request asks for is to be installed
pub record IsInstallDue (k : Kernel) (o c x : ℕ) (asked : Addfd) : Type 0 where
  pub waits : WaitsIn k o c x
  pub unsettled : settled (past k) c ≡ false
  pub oldest : oldest_in (past k) (queue (past k) c) ≡ Some asked
  pub due : due_step k o ≡ install_step (system k) (past k) c (queue (past k) c)
