-- The word for the first task names it.
-- By computing, with `number_after` unfolded.
use Rattle.std.proofs.Common.{◌≡◌, ℕ, List, [], ◌∷◌, refl, ap, ◌∙◌}
use Rattle.std.specs.Prelude.{Some, true, bytes_eq, codes}
use Rattle.std.specs.Cmp.Lexicographic.{bytes_decides}
use Rattle.hist_model.specs.Words.{number_after}
use Rattle.hist_model.specs.declared.event.Actor.TheVariants.{Task}
use Rattle.audit_check.specs.Actors.{numbers_in, task_of}

first-name : task_of (numbers_in (codes "0")) ≡ Some (Task (0 ∷ []))
unfolding number_after
first-name = refl

pub first_task : (word : List ℕ) → bytes_eq word (codes "0") ≡ true → task_of (numbers_in word) ≡ Some (Task (0 ∷ []))
first_task word h = ap (λ w. task_of (numbers_in w)) ((bytes_decides word (codes "0")).0 h) ∙ first-name
