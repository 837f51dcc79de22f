-- The states that a kernel is of the tasks and of the calls of its history, and kernels with the same tables.
use Rattle.std.specs.Prelude.{◌≡◌, ℕ, [], length, Option, Some, None, slice_get}
use Rattle.hist_model.specs.Look.{Name}
use Rattle.hist_model.specs.Sessions.{session}
use Rattle.history_frames.specs.Ordinals.{groups_made}
use Rattle.listener.specs.Listeners as listener
use Rattle.listener.specs.State as call_state
use Rattle.model_kernel.specs.Kernels.{IsKernel, past}
use Rattle.model_kernel.specs.Keys.{HaveSameTables}
use Rattle.model_kernel.specs.declared.kernel.Kernel.{Kernel}
use Rattle.tasks.specs.State.{Row, State}
use Rattle.tasks.specs.Table as tasks
use Rattle.same_futures.specs.Same.{Same}
use Rattle.same_futures.specs.States.{HasStates}
use Rattle.same_futures.specs.Workers.{IsSameSession}

-- the state of the tasks
abbrev pub tasks_of : Kernel → State
tasks_of k = tasks.view (tasks.table_of k.tasks) (groups_made (past k))

-- the name of the task of an ordinal, and none where none was made
abbrev pub name_or_none : Option Row → Name
name_or_none (Some r) = r.name
name_or_none None = []

abbrev pub names_in : State → ℕ → Name
names_in s o = name_or_none (slice_get s.rows o)

-- the state of the calls, each by the name of its task
abbrev pub calls_of : Kernel → call_state.State
calls_of k = listener.view k.resources.listener (names_in (tasks_of k))

-- the second kernel has the states of the first
pub record HasStatesOf (a b : Kernel) : Type 0 where
  pub tasks_are : tasks_of b ≡ tasks_of a
  pub calls_are : calls_of b ≡ calls_of a

-- two kernels of a script with the same tables, whose histories are as long, and whose workers have the same sessions in hand
pub record AreAlike (a b : Kernel) : Type 0 where
  pub here : IsKernel a
  pub there : IsKernel b
  pub script_is : b.script ≡ a.script
  pub tables : HaveSameTables a b
  pub length_is : length (past b) ≡ length (past a)
  pub sessions : (w : ℕ) → IsSameSession (session (past a) w) (session (past b) w)

-- a kernel's history has its states
abbrev pub StandForStates : Type 0
StandForStates = (k : Kernel) → IsKernel k → HasStates k.script (past k) (tasks_of k) (calls_of k)

-- after the histories of such kernels all goes on alike
abbrev pub GoOnAlike : Type 0
GoOnAlike = (a b : Kernel) → AreAlike a b → HasStatesOf a b × Same a.script (tasks_of a) (calls_of a) (past a) (past b)
