-- What a kernel and the workers that serve it keep of the history so far.
use Rattle.std.specs.Prelude.{◌≡◌, ◌<◌, ℕ, Bool, true, false, List, length, Option, Some, None, ⊤}
use Rattle.hist_model.specs.Kinds.{skips}
use Rattle.hist_model.specs.Legal.{rules_of, system_of, with_step}
use Rattle.hist_model.specs.Steps.{step}
use Rattle.hist_model.specs.Tasks.{is_made}
use Rattle.hist_model.specs.declared.event.Actor.{Actor}
use Rattle.hist_model.specs.declared.event.Actor.TheVariants.{Task}
use Rattle.hist_model.specs.declared.event.Event.{Event}
use Rattle.hist_model.specs.declared.event.What.{What}
use Rattle.hist_model.specs.declared.event.What.TheVariants.{Skip}
use Rattle.hist_model.specs.declared.policy.Policy.{Policy}
use Rattle.hist_model.specs.declared.script.Script.{Script}
use Rattle.history_frames.specs.Ordinals.{task_name_of, tasks_made}
use Rattle.mediation.specs.Scheduled.{GoesOn}
use Rattle.model_kernel.specs.Kernels.{IsKernel, past}
use Rattle.broker_machine.specs.Workers.{AllRemember, OthersRemember}
use Rattle.broker_machine.specs.declared.machine.Machine.{Machine}

-- under the policy the history is legal and goes on, and each of the workers 0 to 16 remembers its session of it
pub record IsServed (P : Policy) (m : Machine) : Type 0 where
  pub kernel : IsKernel m.kernel
  pub goes_on : GoesOn P m.kernel.script (past m.kernel)
  pub number : length m.workers.items ≡ 17
  pub workers : AllRemember P m.kernel.script.figures (past m.kernel) m.workers.items

-- the same but for one worker, which was stopped: the others remember their sessions
pub record IsStopped (P : Policy) (n : ℕ) (m : Machine) : Type 0 where
  pub kernel : IsKernel m.kernel
  pub goes_on : GoesOn P m.kernel.script (past m.kernel)
  pub number : length m.workers.items ≡ 17
  pub others : OthersRemember P m.kernel.script.figures (past m.kernel) n m.workers.items

-- the machine has come to this history of a policy and a script
pub record IsAt (P : Policy) (S : Script) (K : List Event) (m : Machine) : Type 0 where
  pub served : IsServed P m
  pub script : m.kernel.script ≡ S
  pub events : past m.kernel ≡ K

-- it has come to another history of the policy and its script
abbrev pub Reaches : Policy → Machine → List Event → Machine → Type 0
Reaches P old K new = IsAt P old.kernel.script K new

-- its history with one more step of an actor
abbrev pub after_step : Policy → Machine → Actor → List Event
after_step P m a = with_step P m.kernel.script a (past m.kernel)

-- the ordinal is that of the task of this name, if one was made; an actor that is no task needs none
abbrev pub IsFound : List Event → Actor → Option ℕ → Type 0
IsFound K (Task n) (Some o) = (o < tasks_made K) × (task_name_of K o ≡ n)
IsFound K (Task n) None = is_made K n ≡ false
IsFound K a o = ⊤

-- the step that an actor has next, by the definitions
abbrev pub step_of : Policy → Machine → Actor → What
step_of P m a = step (system_of m.kernel.script) (rules_of P m.kernel.script.figures) (past m.kernel) a

-- the actor made its step; or it waits, and the history is as it was
abbrev pub Tries : Policy → Machine → Actor → Bool → Machine → Type 0
Tries P old a true new = Reaches P old (after_step P old a) new × (skips (step_of P old a) ≡ false)
Tries P old a false new = Reaches P old (past old.kernel) new × (step_of P old a ≡ Skip)
