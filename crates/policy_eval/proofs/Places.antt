-- The deciding rule, found from the first rule on.
-- By the definition of `decide_from` at the first rule that is left, which `drop-cons` gives.
use Rattle.std.proofs.Common.{◌≡◌, ℕ, ◌+◌, ◌<◌, ◌≤◌, true, false, List, [], ◌∷◌, length, drop, length-drop, get_or, refl, arith, add-one}
use Rattle.std.proofs.Math.Seq.{drop-cons}
use Rattle.hist_model.specs.Decisions.{fits, decide_from}
use Rattle.hist_model.specs.declared.policy.Rule.{Rule}
use Rattle.hist_model.specs.declared.policy.Verdict.TheVariants.{Pass}
use Rattle.hist_model.specs.declared.request.Request.{Request}

-- the rule at this place fits
pub decided_here : (rules : List Rule) (q : Request) (i : ℕ) (d : Rule) → i < length rules → fits (get_or rules i d) q ≡ true → decide_from i (drop i rules) q ≡ (i, (get_or rules i d).verdict)
unfolding decide_from
decided_here rules q i d l h = rw (drop-cons rules i d l, h)

-- it doesn't, and the next ones are tried
pub decided_later : (rules : List Rule) (q : Request) (i : ℕ) (d : Rule) → i < length rules → fits (get_or rules i d) q ≡ false → decide_from i (drop i rules) q ≡ decide_from (i + 1) (drop (i + 1) rules) q
unfolding decide_from
decided_later rules q i d l h = rw (drop-cons rules i d l, h, add-one)

none_left : (rules : List Rule) (q : Request) (i : ℕ) → length rules ≡ 0 → decide_from i rules q ≡ (i, Pass)
unfolding decide_from
none_left [] q i e = refl
none_left (r ∷ rules) q i e = absurd (omega arith)

-- every rule was tried
pub decided_past : (rules : List Rule) (q : Request) (i : ℕ) → length rules ≤ i → decide_from i (drop i rules) q ≡ (i, Pass)
decided_past rules q i l = none_left (drop i rules) q i (simp length-drop (omega arith))
