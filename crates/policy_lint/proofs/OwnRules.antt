-- How many rules a policy states, found from the first on.
-- By the definition at the first rule that is left, which `drop-cons` gives.
use Rattle.std.proofs.Common.{◌≡◌, ℕ, ◌+◌, ◌<◌, ◌≤◌, true, false, List, [], ◌∷◌, length, drop, length-drop, get_or, refl, arith, add-one}
use Rattle.std.proofs.Math.Seq.{drop-cons}
use Rattle.hist_model.specs.declared.policy.Rule.{Rule}
use Rattle.policy_lint.specs.Own.{is_taken, own_number}

pub taken_here : (rules : List Rule) (i : ℕ) (d : Rule) → i < length rules → is_taken (get_or rules i d).name ≡ true → own_number (drop i rules) ≡ 0
taken_here rules i d l h = rw (drop-cons rules i d l, h)

pub taken_later : (rules : List Rule) (i : ℕ) (d : Rule) → i < length rules → is_taken (get_or rules i d).name ≡ false → i + own_number (drop i rules) ≡ i + 1 + own_number (drop (i + 1) rules)
taken_later rules i d l h = rw (drop-cons rules i d l, h, add-one) (omega arith)

none_left : (rules : List Rule) → length rules ≡ 0 → own_number rules ≡ 0
none_left [] e = refl
none_left (r ∷ rules) e = absurd (omega arith)

pub none_taken : (rules : List Rule) (i : ℕ) → length rules ≤ i → own_number (drop i rules) ≡ 0
none_taken rules i l = none_left (drop i rules) (simp length-drop (omega arith))
