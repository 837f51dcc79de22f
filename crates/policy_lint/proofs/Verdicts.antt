-- A call's verdict is that of the rule at the place that decides it.
-- By the first rule that fits.
use Rattle.std.proofs.Common.{◌≡◌, ℕ, zero, suc, ◌+◌, Bool, true, false, ◌||◌, List, [], ◌∷◌, refl, ap, sym, ◌∙◌, arith}
use Rattle.std.specs.Prelude.{if◌then◌else◌}
use Rattle.std.specs.List.{list_any}
use Rattle.hist_model.specs.Decisions.{decide, decide_from, fits}
use Rattle.hist_model.specs.declared.policy.Rule.{Rule}
use Rattle.hist_model.specs.declared.policy.Verdict.{Verdict}
use Rattle.hist_model.specs.declared.request.Request.{Request}
use Rattle.policy_lint.specs.Passed.{denies, verdict_at}

-- the rule so many places behind the first one decides
abbrev IsSo : List Rule → ℕ → ℕ × Verdict → Type 0
IsSo rules n d = (k : ℕ) × (d.0 ≡ n + k) × (d.1 ≡ verdict_at rules k)

decided_from : (n : ℕ) (rules : List Rule) (q : Request) → IsSo rules n (decide_from n rules q)
unfolding decide_from
decided_from n [] q = (0, omega arith, refl)
decided_from n (rule ∷ rules) q = by (fits rule q) (decided_from (n + 1) rules q)
  where
    by : (b : Bool) → IsSo rules (n + 1) (decide_from (n + 1) rules q)
        → IsSo (rule ∷ rules) n (if b then (n, rule.verdict) else decide_from (n + 1) rules q)
    by true rest = (0, omega arith, refl)
    by false (k, e, v) = (suc k, omega arith, v)

pub decided_verdict : (rules : List Rule) (q : Request) → (decide rules q).1 ≡ verdict_at rules (decide rules q).0
unfolding decide
decided_verdict rules q = by (decided_from 0 rules q)
  where
    by : IsSo rules 0 (decide_from 0 rules q) → (decide_from 0 rules q).1 ≡ verdict_at rules (decide_from 0 rules q).0
    by (k, e, v) = let s : (decide_from 0 rules q).0 ≡ k = omega arith in v ∙ ap (verdict_at rules) (sym s)

-- where no rule denies, none at any place does
abbrev pub deny : Rule → Bool
deny rule = denies rule.verdict

pub none_denies : (rules : List Rule) (k : ℕ) → list_any deny rules ≡ false → denies (verdict_at rules k) ≡ false
none_denies [] zero h = refl
none_denies [] (suc k) h = refl
none_denies (rule ∷ rules) zero h = by (denies rule.verdict) h
  where
    by : (b : Bool) → (b || list_any deny rules) ≡ false → b ≡ false
    by true g = cc
    by false g = refl
none_denies (rule ∷ rules) (suc k) h = none_denies rules k (by (denies rule.verdict) h)
  where
    by : (b : Bool) → (b || list_any deny rules) ≡ false → list_any deny rules ≡ false
    by true g = cc
    by false g = g
