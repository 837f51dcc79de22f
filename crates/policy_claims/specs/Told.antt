-- What is told of claims: a line for each, and how many are held and how many are refuted.
use Rattle.std.specs.Prelude.{◌≡◌, ℕ, Bool, true, false, ◌==◌, if◌then◌else◌, List, [], ◌++◌, Option, Some, None, slice_get, codes, decimal}
use Rattle.std.specs.Prelude.{length}
use Rattle.std.specs.List.{AllZip, count_by, flat_map}
use Rattle.hist_model.specs.Decisions.{decide}
use Rattle.hist_model.specs.declared.policy.Rule.{Rule}
use Rattle.hist_model.specs.declared.request.Request.{Request}
use Rattle.policy_claims.specs.declared.claims.Claims.{Claims}
use Rattle.policy_claims.specs.declared.claims.Sense.{Sense}
use Rattle.policy_claims.specs.declared.claims.Sense.TheVariants.{Expect, Never}
use Rattle.policy_claims.specs.declared.finding.Finding.{Finding}
use Rattle.policy_claims.specs.declared.standing.Standing.{Standing}
use Rattle.policy_claims.specs.declared.standing.Standing.TheVariants.{Held, Vacuous, Refuted, Undecided}
use Rattle.policy_classes.specs.declared.ending.Ending.{Ending}
use Rattle.policy_classes.specs.declared.ending.Ending.TheVariants.{Alike, Otherwise, Undecided as NotDecided}
use Rattle.policy_classes.specs.declared.ending.Told.{Told}
use Rattle.policy_claims.specs.Standings.{IsSo}
use Rattle.policy_explain.specs.Asked.{asked_text}

-- ---- What is found

-- of a claim, by its name, something is told that is so
abbrev pub IsFinding : Sense → List Rule → Rule → Finding → Type 0
IsFinding sense rules claim finding = (finding.name ≡ claim.name) × IsSo sense rules claim finding.standing

-- and of each claim of a list, in their order
abbrev pub AreFindings : Sense → List Rule → List Rule → List Finding → Type 0
AreFindings sense rules claims findings = AllZip (IsFinding sense rules) claims findings

-- and of those of both lists, one after the other
pub record AreFound (rules : List Rule) (claims : Claims) (findings : List Finding) : Type 0 where
  pub expect : List Finding
  pub never : List Finding
  pub both : findings ≡ expect ++ never
  pub of_expect : AreFindings Expect rules claims.expect expect
  pub of_never : AreFindings Never rules claims.never never

-- ---- The lines

-- the name of the rule that decides; none where no rule does
abbrev pub name_or_dash : Option Rule → List ℕ
name_or_dash (Some rule) = rule.name
name_or_dash None = codes "-"

abbrev pub deciding_name : List Rule → Request → List ℕ
deciding_name rules q = name_or_dash (slice_get rules (decide rules q).0)

-- a call, and the rule that decides it
abbrev pub witness_text : List Rule → Request → List ℕ
witness_text rules q = codes " " ++ asked_text q ++ codes " rule=" ++ deciding_name rules q

abbrev pub standing_text : List Rule → List ℕ → Standing → List ℕ
standing_text rules name Held = codes "held " ++ name
standing_text rules name Vacuous = codes "held " ++ name ++ codes " vacuous"
standing_text rules name (Refuted q) = codes "refuted " ++ name ++ witness_text rules q
standing_text rules name Undecided = codes "undecided " ++ name

-- the line of a claim
abbrev pub line_text : List Rule → Finding → List ℕ
line_text rules finding = standing_text rules finding.name finding.standing ++ codes "\n"

abbrev pub lines_text : List Rule → List Finding → List ℕ
lines_text rules findings = flat_map (line_text rules) findings

-- ---- The counts

abbrev pub holds : Standing → Bool
holds Held = true
holds Vacuous = true
holds (Refuted q) = false
holds Undecided = false

abbrev pub is_refuted : Standing → Bool
is_refuted Held = false
is_refuted Vacuous = false
is_refuted (Refuted q) = true
is_refuted Undecided = false

abbrev pub is_undecided : Standing → Bool
is_undecided Held = false
is_undecided Vacuous = false
is_undecided (Refuted q) = false
is_undecided Undecided = true

abbrev pub held_count : List Finding → ℕ
held_count findings = count_by (λ (f : Finding). holds f.standing) findings

abbrev pub refuted_count : List Finding → ℕ
refuted_count findings = count_by (λ (f : Finding). is_refuted f.standing) findings

abbrev pub undecided_count : List Finding → ℕ
undecided_count findings = count_by (λ (f : Finding). is_undecided f.standing) findings

-- how many aren't decided, where some aren't
abbrev pub undecided_text : ℕ → List ℕ
undecided_text count = if count == 0 then [] else codes " undecided=" ++ decimal count

-- how many claims there are, and how many of them are held and refuted
abbrev pub claims_text : ℕ → ℕ → ℕ → List ℕ
claims_text claims held refuted =
    codes "claims=" ++ decimal claims ++ codes " held=" ++ decimal held ++ codes " refuted=" ++ decimal refuted

abbrev pub counts_text : List Finding → List ℕ
counts_text findings =
    claims_text (length findings) (held_count findings) (refuted_count findings) ++ undecided_text (undecided_count findings) ++ codes "\n"

-- ---- All of it

abbrev pub told_text : List Rule → List Finding → List ℕ
told_text rules findings = lines_text rules findings ++ counts_text findings

-- whether some claim is refuted, and then whether some isn't decided
abbrev pub ending_of : List Finding → Ending
ending_of findings =
    if refuted_count findings == 0 then (if undecided_count findings == 0 then Alike else NotDecided) else Otherwise

-- what is told of claims under a policy: of each something that is so
pub record IsToldOf (rules : List Rule) (claims : Claims) (told : Told) : Type 0 where
  pub findings : List Finding
  pub found : AreFound rules claims findings
  pub text : told.text ≡ told_text rules findings
  pub ending : told.ending ≡ ending_of findings
