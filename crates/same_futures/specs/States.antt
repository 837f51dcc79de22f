-- The states of tasks and calls that a history has, and histories that have them in common.
use Rattle.std.specs.Prelude.{List}
use Rattle.hist_model.specs.declared.event.Event.{Event}
use Rattle.hist_model.specs.declared.script.Script.{Script}
use Rattle.listener.specs.Fold as calls
use Rattle.listener.specs.Sound as call_sound
use Rattle.listener.specs.State as call_state
use Rattle.tasks.specs.Fold as tasks
use Rattle.tasks.specs.Sound as task_sound
use Rattle.tasks.specs.State.{State}

-- these are the states of the tasks and of the calls of a history, which is sound: as each history of the kernel is
pub record HasStates (S : Script) (K : List Event) (s : State) (c : call_state.State) : Type 0 where
  pub tasks : tasks.Looks S K s
  pub tasks_sound : task_sound.IsSound K
  pub calls : calls.Looks S.firstid K c
  pub calls_sound : call_sound.IsSound S.firstid K
  pub asked : call_sound.AreAsked K

-- two histories have these states
pub record ShareStates (S : Script) (K L : List Event) (s : State) (c : call_state.State) : Type 0 where
  pub here : HasStates S K s c
  pub there : HasStates S L s c
