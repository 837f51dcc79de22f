-- The deciding rule, found from the first rule on.
-- By the definition of `decide_from` at the first rule that is left, which `drop-cons` gives.
use Rattle.std.proofs.Common.{◌≡◌, ℕ, ◌+◌, ◌<◌, ◌≤◌, true, false, List, [], ◌∷◌, length, drop, length-drop, get_or, refl, arith, add-one}
use Rattle.std.proofs.Math.Seq.{drop-cons}
use Rattle.hist_model.specs.Decisions.{fits, decide, decide_from}
use Rattle.hist_model.specs.declared.policy.Rule.{Rule}
use Rattle.hist_model.specs.declared.request.Request.{Request}

-- no rule was tried
pub none_tried : (rules : List Rule) (q : Request) → (decide rules q).0 ≡ (decide_from 0 rules q).0
unfolding decide
none_tried rules q = refl

-- the rule at this place fits
pub found_here : (rules : List Rule) (q : Request) (i : ℕ) (d : Rule) → i < length rules → fits (get_or rules i d) q ≡ true → (decide_from i (drop i rules) q).0 ≡ i
unfolding decide_from
found_here rules q i d l h = rw (drop-cons rules i d l, h)

-- it doesn't, and the next ones are tried
pub found_later : (rules : List Rule) (q : Request) (i : ℕ) (d : Rule) → i < length rules → fits (get_or rules i d) q ≡ false → (decide_from i (drop i rules) q).0 ≡ (decide_from (i + 1) (drop (i + 1) rules) q).0
unfolding decide_from
found_later rules q i d l h = rw (drop-cons rules i d l, h, add-one)

none_left : (rules : List Rule) (q : Request) (i : ℕ) → length rules ≡ 0 → (decide_from i rules q).0 ≡ i
unfolding decide_from
none_left [] q i e = refl
none_left (r ∷ rules) q i e = absurd (omega arith)

-- every rule was tried
pub found_past : (rules : List Rule) (q : Request) (i : ℕ) → length rules ≤ i → (decide_from i (drop i rules) q).0 ≡ i
found_past rules q i l = none_left (drop i rules) q i (simp length-drop (omega arith))
