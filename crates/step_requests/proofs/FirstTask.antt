-- The name of the first task has one number.
-- By computing, with `digits_value` unfolded.
use Rattle.std.proofs.Common.{◌≡◌, ℕ, List, [], ◌∷◌, refl, ap, ◌∙◌}
use Rattle.std.specs.Prelude.{true, bytes_eq, codes}
use Rattle.std.specs.Cmp.Lexicographic.{bytes_decides}
use Rattle.lex_core.specs.Numbers.{digits_value}
use Rattle.step_requests.specs.Names.{task_numbers}

first-number : task_numbers (codes "0") ≡ 0 ∷ []
unfolding digits_value
first-number = refl

pub first_task : (text : List ℕ) → bytes_eq text (codes "0") ≡ true → task_numbers text ≡ 0 ∷ []
first_task text h = ap task_numbers ((bytes_decides text (codes "0")).0 h) ∙ first-number
