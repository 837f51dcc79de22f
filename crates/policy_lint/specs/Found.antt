-- What is found of a policy.
use Rattle.std.specs.Prelude.{◌≡◌, ◌≢◌, ◌⊎◌, ◌<◌, ◌==◌, ◌||◌, not, ℕ, Bool, true, List, [], ◌∷◌, All, Any, ⊤, false, nat_eq, Ok, Err}
use Rattle.std.specs.List.{list_any, starts_with}
use Rattle.hist_model.specs.Decisions.{decide}
use Rattle.hist_model.specs.Records.{PolicyRecord}
use Rattle.hist_model.specs.declared.policy.Rule.{Rule}
use Rattle.hist_model.specs.declared.policy.Verdict.TheVariants.{Grant}
use Rattle.policy_classes.specs.declared.ending.Told.{Told}
use Rattle.policy_classes.specs.declared.found.Class.{Class}
use Rattle.policy_lint.specs.Judged.{IsJudged}
use Rattle.policy_lint.specs.Lines.{ending_of, report}
use Rattle.policy_lint.specs.Own.{own_number}
use Rattle.policy_lint.specs.Passed.{IsOpen, PassesByMemory, is_suspect}
use Rattle.policy_lint.specs.declared.finding.Fault.{Fault}
use Rattle.policy_lint.specs.declared.finding.Fault.TheVariants.{Refused, Judged, Granted, Passed, Unsure, Noted, NoEffect}
use Rattle.policy_lint.specs.declared.finding.Finding.{Finding}
use Rattle.policy_lint.specs.declared.judgement.Judgement.TheVariants.{Useful}
use Rattle.policy_reader.specs.declared.error.PolicyError.{PolicyError}
use Rattle.policy_reader.specs.Policies.{policy}
use Rattle.policy_reader.specs.Readings.{Reading}

-- ---- a policy that is read

-- what is said of a policy with these rules is so
abbrev pub IsSo : List Rule → Fault → Type 0
IsSo rules (Refused error cure) = ⊥
IsSo rules (Judged place judgement) = (place < own_number rules) × IsJudged rules place judgement × (judgement ≢ Useful)
IsSo rules (Granted hint place by call) = decide rules call ≡ (by, Grant)
IsSo rules (Passed place by call against other) = IsOpen rules call by other against
IsSo rules (Unsure place) = ⊤
IsSo rules (Noted note place cure) = ⊤
IsSo rules (NoEffect place front) = list_any (λ (rule : Rule). starts_with nat_eq rule.name front) rules ≡ false

-- each of these is so
abbrev pub AreSaid : List Rule → List Finding → Type 0
AreSaid rules findings = All (λ f. IsSo rules f.fault) findings

-- it is about the rule at this place
abbrev pub IsAbout : ℕ → Fault → Type 0
IsAbout i (Refused error cure) = ⊥
IsAbout i (Judged place judgement) = place ≡ i
IsAbout i (Granted hint place by call) = ⊥
IsAbout i (Passed place by call against other) = ⊥
IsAbout i (Unsure place) = ⊥
IsAbout i (Noted note place cure) = ⊥
IsAbout i (NoEffect place front) = ⊥

-- what is said is so, and of each rule before a place that isn't useful something is said
pub record FoundUpTo (rules : List Rule) (place : ℕ) (findings : List Finding) : Type 0 where
  pub each : AreSaid rules findings
  pub all : (i : ℕ) → i < place → IsJudged rules i Useful ⊎ Any (λ f. IsAbout i f.fault) findings

-- it tells of the rule at this place that it passes calls of which other texts would be denied, or that this wasn't found out
abbrev pub tells_of_passing : ℕ → Fault → Bool
tells_of_passing i (Refused error cure) = false
tells_of_passing i (Judged place judgement) = false
tells_of_passing i (Granted hint place by call) = false
tells_of_passing i (Passed place by call against other) = by == i
tells_of_passing i (Unsure place) = true
tells_of_passing i (Noted note place cure) = false
tells_of_passing i (NoEffect place front) = false

-- no rule does so of which that isn't told
abbrev pub AreAllTold : List Rule → List Finding → Type 0
AreAllTold rules findings = (i : ℕ) → PassesByMemory rules i → Any (λ f. tells_of_passing i f.fault ≡ true) findings

-- it is told of the rule of a class whose calls are passed, and may be denied for other texts
abbrev pub is_heeded : List Rule → List Rule → List Finding → Class → Bool
is_heeded rules any findings c =
    not (is_suspect rules any c) || list_any (λ (f : Finding). tells_of_passing c.old_place f.fault) findings

-- of each rule that the policy states, and of each that passes a call
pub record AreFindings (rules : List Rule) (findings : List Finding) : Type 0 where
  pub judged : FoundUpTo rules (own_number rules) findings
  pub passing : AreAllTold rules findings

-- ---- a policy that is refused

-- it is told by which refusal
abbrev pub IsRefusal : PolicyError → Fault → Type 0
IsRefusal e (Refused error cure) = error ≡ e
IsRefusal e (Judged place judgement) = ⊥
IsRefusal e (Granted hint place by call) = ⊥
IsRefusal e (Passed place by call against other) = ⊥
IsRefusal e (Unsure place) = ⊥
IsRefusal e (Noted note place cure) = ⊥
IsRefusal e (NoEffect place front) = ⊥

-- ---- any file

abbrev pub AreOf : Reading PolicyRecord → List Finding → Type 0
AreOf (Ok p) findings = AreFindings p.rules findings
AreOf (Err e) findings = (f : Finding) × (findings ≡ f ∷ []) × IsRefusal e f.fault

abbrev pub rules_read : Reading PolicyRecord → List Rule
rules_read (Ok p) = p.rules
rules_read (Err e) = []

-- the text has the lines of what is found, and it ends so
abbrev pub IsToldOf : List Rule → List Finding → Told → Type 0
IsToldOf rules findings told = (told.text ≡ report rules findings) × (told.ending ≡ ending_of findings)

-- what is told of a file's bytes
abbrev pub Tells : List ℕ → Told → Type 0
Tells bytes told =
    (findings : List Finding) × AreOf (policy bytes) findings × IsToldOf (rules_read (policy bytes)) findings told
