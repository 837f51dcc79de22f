-- Histories after which all goes on alike.
use Rattle.std.specs.Prelude.{◌≡◌, ℕ, true, false, List, length}
use Rattle.hist_model.specs.Files.{files}
use Rattle.hist_model.specs.Look.{Name}
use Rattle.hist_model.specs.Steps.{times_spent}
use Rattle.hist_model.specs.Tasks.{ended, is_made}
use Rattle.hist_model.specs.declared.event.Event.{Event}
use Rattle.hist_model.specs.declared.script.Script.{Script}
use Rattle.listener.specs.State as call_state
use Rattle.tasks.specs.State.{State}
use Rattle.same_futures.specs.Groups.{SameGroupOf}
use Rattle.same_futures.specs.States.{ShareStates}
use Rattle.same_futures.specs.Workers.{SameWorker}

-- the histories are as long, they have these states of tasks and calls, and the same tree, and each rule was spent as often; each task
-- that lives is of a group with the same bytes and numbers; and each worker has the same
pub record Same (S : Script) (tasks : State) (calls : call_state.State) (K L : List Event) : Type 0 where
  pub length_is : length L ≡ length K
  pub states : ShareStates S K L tasks calls
  pub tree_is : (files S L).tree ≡ (files S K).tree
  pub spent_is : (rule : ℕ) → times_spent L rule ≡ times_spent K rule
  pub groups : (n : Name) → is_made K n ≡ true → ended K n ≡ false → SameGroupOf S K L n
  pub workers : (w : ℕ) → SameWorker S K L w
