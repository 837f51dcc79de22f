-- What may be said of a rule, for all calls.
use Rattle.std.specs.Prelude.{◌≡◌, ◌≢◌, ℕ, ◌+◌, List, [], All, Any, IfSome, ⊤, slice_get, take, drop}
use Rattle.hist_model.specs.Decisions.{decide}
use Rattle.hist_model.specs.declared.policy.Rule.{Rule}
use Rattle.hist_model.specs.declared.request.Request.{Request}
use Rattle.policy_classes.specs.Asked.{IsCall}
use Rattle.policy_lint.specs.Alike.{IsAlike, deciding}
use Rattle.policy_lint.specs.declared.judgement.Judgement.{Judgement}
use Rattle.policy_lint.specs.declared.judgement.Judgement.TheVariants.{Useful, Never, Shadowed, Needless, Undecided}

-- the rule at a place as the only one
abbrev pub alone : List Rule → ℕ → List Rule
alone rules i = take 1 (drop i rules)

-- the rules behind it
abbrev pub behind : List Rule → ℕ → List Rule
behind rules i = drop (i + 1) rules

-- a call that the rule fits
abbrev pub Fits : List Rule → ℕ → Request → Type 0
Fits rules i q = IsCall q × ((decide (alone rules i) q).0 ≡ 0)

-- a call that it decides
abbrev pub Decides : List Rule → ℕ → Request → Type 0
Decides rules i q = IsCall q × ((decide rules q).0 ≡ i)

-- the call would have the same answer without the rule, by the rules behind it
abbrev pub IsSameWithout : List Rule → ℕ → Request → Type 0
IsSameWithout rules i q = IfSome (slice_get rules i) (λ rule. IsAlike rule (deciding (behind rules i) q))

-- ---- what is wrong

-- the rule fits no call
abbrev pub IsNever : List Rule → ℕ → Type 0
IsNever rules i = (q : Request) → ¬ Fits rules i q

-- it decides none
abbrev pub IsShadowed : List Rule → ℕ → Type 0
IsShadowed rules i = (q : Request) → ¬ Decides rules i q

-- each call that it decides would have the same answer without it
abbrev pub IsNeedless : List Rule → ℕ → Type 0
IsNeedless rules i = (q : Request) → Decides rules i q → IsSameWithout rules i q

-- ---- by which rules

-- the rules at these places, and no others, decide the calls that the rule fits
pub record AreTakers (rules : List Rule) (i : ℕ) (places : List ℕ) : Type 0 where
  pub each : All (λ place. (q : Request) × Fits rules i q × (place ≡ (decide rules q).0)) places
  pub all : (q : Request) → Fits rules i q → Any (λ place. place ≡ (decide rules q).0) places

-- behind the rule those at these places, and no others, decide the calls that it decides
pub record AreNext (rules : List Rule) (i : ℕ) (places : List ℕ) : Type 0 where
  pub each : All (λ place. (q : Request) × Decides rules i q × (place ≡ (decide (behind rules i) q).0)) places
  pub all : (q : Request) → Decides rules i q → Any (λ place. place ≡ (decide (behind rules i) q).0) places

-- a rule isn't more than one of these: it fits a call where it is shadowed, and decides one where it is needless
abbrev pub IsJudged : List Rule → ℕ → Judgement → Type 0
IsJudged rules i Useful = (q : Request) × Decides rules i q × ¬ IsSameWithout rules i q
IsJudged rules i Never = IsNever rules i
IsJudged rules i (Shadowed by) = IsShadowed rules i × AreTakers rules i by × (by ≢ [])
IsJudged rules i (Needless by) = IsNeedless rules i × AreNext rules i by × (by ≢ [])
IsJudged rules i Undecided = ⊤
