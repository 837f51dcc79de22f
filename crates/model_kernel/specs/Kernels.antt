-- What a kernel keeps of its history.
use Rattle.std.specs.Prelude.{◌≡◌, ℕ, ◌<◌, ◌^◌, List, ◌∷◌, Option, Some, None, Result}
use Rattle.hist_model.specs.Deeds.{Deed}
use Rattle.hist_model.specs.Legal.{started, system_of}
use Rattle.hist_model.specs.Look.{ev}
use Rattle.hist_model.specs.Steps.{deed_step}
use Rattle.hist_model.specs.Systems.{System}
use Rattle.hist_model.specs.declared.event.Actor.TheVariants.{Worker}
use Rattle.hist_model.specs.declared.event.Event.{Event}
use Rattle.hist_model.specs.declared.event.What.{What}
use Rattle.hist_model.specs.declared.event.What.TheVariants.{AddfdTake, Skip}
use Rattle.history_frames.specs.Ordinals.{tasks_made}
use Rattle.model_kernel.specs.Stands as resources
use Rattle.tasks.specs.Stands as tasks
use Rattle.hist_model.specs.declared.script.Script.{Script}
use Rattle.tasks.specs.declared.table.Tasks.{Tasks}
use Rattle.tasks.specs.Stands.{living_in, one_if}
use Rattle.model_kernel.specs.declared.kernel.Kernel.{Kernel}

-- what has happened so far
abbrev pub past : Kernel → List Event
past k = k.history.events

-- what the steps of the kernel's script are taken by
abbrev pub system : Kernel → System
system k = system_of k.script

-- the tasks and the resources stand for the kernel's own history
pub record IsKernel (k : Kernel) : Type 0 where
  pub tasks : tasks.StandsFor k.script (past k) k.tasks
  pub resources : resources.StandsFor k.script (past k) (living_in k.tasks) k.resources
  -- there are fewer than 2 ^ 32 tasks
  pub few : tasks_made (past k) < 2 ^ 32

-- the tasks are those of a script's start: one, which is counted in the group that is the first
pub record HasFirst (S : Script) (T : Tasks) : Type 0 where
  pub stand : tasks.StandsFor S (started S) T
  pub counts : (g : ℕ) → living_in T g ≡ one_if 0 g

-- the kernel is that of a script's start
pub record IsBegun (S : Script) (k : Kernel) : Type 0 where
  pub kernel : IsKernel k
  pub script : k.script ≡ S
  pub events : past k ≡ started S

-- the kernel after one more event
pub record IsAfter (old : Kernel) (e : Event) (new : Kernel) : Type 0 where
  pub kernel : IsKernel new
  pub script : new.script ≡ old.script
  pub events : past new ≡ e ∷ past old

-- the kernel after a worker's deed, with its answer
abbrev pub DoesDeed : Kernel → ℕ → Deed → Kernel → Type 0
DoesDeed old w d new = IsAfter old (ev (Worker w) (deed_step (system old) (past old) w d)) new

-- the step that takes what came of a request, with this answer; without one it is no step
abbrev pub taken_step : Option (Result ℕ ℕ) → What
taken_step (Some answer) = AddfdTake answer
taken_step None = Skip
