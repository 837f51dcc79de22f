-- The rule that decides is the first of which nothing is missed.
-- By induction on the rules, over the place of the first one that fits.
use Rattle.std.proofs.Common.{◌≡◌, ℕ, suc, ◌+◌, ◌≤◌, Bool, true, false, ◌&&◌, List, [], ◌∷◌, length, take, Option, Some, None, cond, not, refl, ap, ◌∙◌, subst, arith}
use Rattle.std.specs.Prelude.{IfSome, is_none, is_some, slice_get}
use Rattle.std.specs.List.{list_all}
use Rattle.hist_model.specs.Decisions.{decide, decide_from, fits}
use Rattle.hist_model.specs.declared.policy.Rule.{Rule}
use Rattle.hist_model.specs.declared.request.Request.{Request}
use Rattle.policy_explain.specs.Missed.{Missed, missed}
use Rattle.policy_explain.proofs.Misses.{fits_where_nothing_is_missed}

-- the place of the first rule that fits, and past the end where none does
abbrev first_fit : List Rule → Request → ℕ
first_fit [] q = 0
first_fit (rule ∷ rules) q = cond (fits rule q) 0 (suc (first_fit rules q))

place_from : (n : ℕ) (rules : List Rule) (q : Request) → (decide_from n rules q).0 ≡ n + first_fit rules q
unfolding decide_from
place_from n [] q = omega arith
place_from n (rule ∷ rules) q = here (fits rule q) (place_from (n + 1) rules q)
  where
    here : (b : Bool) → (decide_from (n + 1) rules q).0 ≡ n + 1 + first_fit rules q
        → (cond b (n, rule.verdict) (decide_from (n + 1) rules q)).0 ≡ n + cond b 0 (suc (first_fit rules q))
    here true h = omega arith
    here false h = h ∙ omega arith

place-is : (rules : List Rule) (q : Request) → first_fit rules q ≡ (decide rules q).0
unfolding decide
place-is rules q = let h = place_from 0 rules q in omega arith

first_fit-within : (rules : List Rule) (q : Request) → first_fit rules q ≤ length rules
first_fit-within [] q = omega arith
first_fit-within (rule ∷ rules) q = here (fits rule q) (first_fit-within rules q)
  where
    here : (b : Bool) → first_fit rules q ≤ length rules → cond b 0 (suc (first_fit rules q)) ≤ length (rule ∷ rules)
    here true h = omega arith
    here false h = omega arith

-- the deciding rule is one of the rules, or none is
pub place_within : (rules : List Rule) (q : Request) → (decide rules q).0 ≤ length rules
place_within rules q = let P : ℕ → Type 0 = λ n. n ≤ length rules in subst P (place-is rules q) (first_fit-within rules q)

some_missed : (rule : Rule) (q : Request) → fits rule q ≡ false → is_some (missed rule q) ≡ true
some_missed rule q h = turned (is_some (missed rule q)) (fits_where_nothing_is_missed rule q ∙ h)
  where
    turned : (b : Bool) → not b ≡ false → b ≡ true
    turned true e = refl
    turned false e = cc

before_first : (rules : List Rule) (q : Request) → list_all (λ rule. is_some (missed rule q)) (take (first_fit rules q) rules) ≡ true
before_first [] q = refl
before_first (rule ∷ rules) q = here (fits rule q) (some_missed rule q) (before_first rules q)
  where
    here : (b : Bool) → (b ≡ false → is_some (missed rule q) ≡ true)
        → list_all (λ rule. is_some (missed rule q)) (take (first_fit rules q) rules) ≡ true
        → list_all (λ rule. is_some (missed rule q)) (take (cond b 0 (suc (first_fit rules q))) (rule ∷ rules)) ≡ true
    here true m h = refl
    here false m h = ap (λ x. x && list_all (λ rule. is_some (missed rule q)) (take (first_fit rules q) rules)) (m refl) ∙ h

pub each_before_misses : (rules : List Rule) (q : Request) → list_all (λ rule. is_some (missed rule q)) (take (decide rules q).0 rules) ≡ true
each_before_misses rules q =
    let P : ℕ → Type 0 = λ n. list_all (λ rule. is_some (missed rule q)) (take n rules) ≡ true in subst P (place-is rules q) (before_first rules q)

none_missed : (rule : Rule) (q : Request) → fits rule q ≡ true → missed rule q ≡ None
none_missed rule q h = turned (missed rule q) (fits_where_nothing_is_missed rule q ∙ h)
  where
    turned : (o : Option Missed) → is_none o ≡ true → o ≡ None
    turned (Some m) e = cc
    turned None e = refl

at_first : (rules : List Rule) (q : Request) → IfSome (slice_get rules (first_fit rules q)) (λ rule. missed rule q ≡ None)
at_first [] q = tt
at_first (rule ∷ rules) q = here (fits rule q) (none_missed rule q) (at_first rules q)
  where
    here : (b : Bool) → (b ≡ true → missed rule q ≡ None)
        → IfSome (slice_get rules (first_fit rules q)) (λ rule. missed rule q ≡ None)
        → IfSome (slice_get (rule ∷ rules) (cond b 0 (suc (first_fit rules q)))) (λ rule. missed rule q ≡ None)
    here true m h = m refl
    here false m h = h

pub deciding_misses_nothing : (rules : List Rule) (q : Request) → IfSome (slice_get rules (decide rules q).0) (λ rule. missed rule q ≡ None)
deciding_misses_nothing rules q =
    let P : ℕ → Type 0 = λ n. IfSome (slice_get rules n) (λ rule. missed rule q ≡ None) in subst P (place-is rules q) (at_first rules q)
