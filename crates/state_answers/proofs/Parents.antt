-- The PID of a task's parent that lives.
-- By whether the parent was made.
use Rattle.std.proofs.Common.{◌≡◌, ℕ, ◌<◌, Bool, true, false, ◌&&◌, not, if◌then◌else◌, List, refl, sym, ap, ◌∙◌}
use Rattle.hist_model.specs.Look.{Name}
use Rattle.hist_model.specs.Steps.{pid_named}
use Rattle.hist_model.specs.Tasks.{ended, is_made, parent}
use Rattle.hist_model.specs.declared.event.Event.{Event}
use Rattle.history_frames.specs.Ordinals.{task_name_of, tasks_made}
use Rattle.tasks.proofs.Named.{name-made}
use Rattle.state_answers.specs.Looks.{parent_pid}

chosen : (made gone : Bool) (p : ℕ) → made ≡ true → gone ≡ false → p ≡ (if made && not gone then p else 0)
chosen true false p m g = refl
chosen true true p m g = cc
chosen false gone p m g = cc

module _ (K : List Event) (n : Name) (o : ℕ) (there : o < tasks_made K) (name : task_name_of K o ≡ parent n) where
  pub parent_lives : ended K (task_name_of K o) ≡ false → pid_named K (task_name_of K o) ≡ parent_pid K n
  parent_lives q =
      ap (pid_named K) name
      ∙ chosen (is_made K (parent n)) (ended K (parent n)) (pid_named K (parent n)) (ap (is_made K) (sym name) ∙ name-made K o there) (ap (ended K) (sym name) ∙ q)
