-- What a claim says of a policy, and what it comes to.
use Rattle.std.specs.Prelude.{◌≡◌, ◌≢◌, ⊤, true, false, List, [], ◌∷◌, All, Any, if◌then◌else◌}
use Rattle.std.specs.List.{list_any}
use Rattle.hist_model.specs.Decisions.{decide, fits}
use Rattle.hist_model.specs.declared.policy.Rule.{Rule}
use Rattle.hist_model.specs.declared.policy.Verdict.{Verdict}
use Rattle.hist_model.specs.declared.request.Request.{Request}
use Rattle.policy_claims.specs.declared.claims.Sense.{Sense}
use Rattle.policy_claims.specs.declared.claims.Sense.TheVariants.{Expect, Never}
use Rattle.policy_claims.specs.declared.standing.Standing.{Standing}
use Rattle.policy_claims.specs.declared.standing.Standing.TheVariants.{Held, Vacuous, Refuted, Undecided}
use Rattle.policy_classes.specs.Asked.{IsCall}
use Rattle.policy_classes.specs.Classes.{HasWitness, Holds as IsOfClass}
use Rattle.policy_classes.specs.declared.found.Class.{Class}
use Rattle.policy_classes.specs.declared.found.Classes.{Classes}

-- ---- What a claim says

-- a policy's answer is as a claim has it
abbrev pub IsAsClaimed : Sense → Verdict → Verdict → Type 0
IsAsClaimed Expect found claimed = found ≡ claimed
IsAsClaimed Never found claimed = found ≢ claimed

-- the call bears the claim out: where it fits it, the policy answers as the claim has it
abbrev pub Bears : Sense → List Rule → Rule → Request → Type 0
Bears sense rules claim q = fits claim q ≡ true → IsAsClaimed sense (decide rules q).1 claim.verdict

-- the claim holds of the policy: each call bears it out
abbrev pub Holds : Sense → List Rule → Rule → Type 0
Holds sense rules claim = (q : Request) → IsCall q → Bears sense rules claim q

-- some call fits the claim
abbrev pub IsMet : Rule → Type 0
IsMet claim = (q : Request) × IsCall q × (fits claim q ≡ true)

-- none does
abbrev pub IsUnmet : Rule → Type 0
IsUnmet claim = (q : Request) → IsCall q → fits claim q ≡ false

-- the call refutes the claim
abbrev pub Refutes : Sense → List Rule → Rule → Request → Type 0
Refutes sense rules claim q = (fits claim q ≡ true) × ¬ (IsAsClaimed sense (decide rules q).1 claim.verdict)

-- ---- What it comes to

-- what is told of a claim is so
abbrev pub IsSo : Sense → List Rule → Rule → Standing → Type 0
IsSo sense rules claim Held = Holds sense rules claim × IsMet claim
IsSo sense rules claim Vacuous = Holds sense rules claim × IsUnmet claim
IsSo sense rules claim (Refuted q) = IsCall q × Refutes sense rules claim q
IsSo sense rules claim Undecided = ⊤

-- ---- By classes

-- the classes of calls of a policy's rules and of a claim
pub record AreClassesOf (rules : List Rule) (claim : Rule) (found : Classes) : Type 0 where
  pub witnesses : All (HasWitness rules (claim ∷ [])) found.classes
  pub there : found.whole ≡ true → (q : Request) → IsCall q → Any (IsOfClass rules (claim ∷ []) q) found.classes

-- the class' witness bears the claim out
abbrev pub BearsClaim : Sense → List Rule → Rule → Class → Type 0
BearsClaim sense rules claim c = Bears sense rules claim c.witness

-- what a claim that no class refutes comes to
abbrev pub unrefuted : Rule → Classes → Standing
unrefuted claim found =
    if found.whole then (if list_any (λ (c : Class). fits claim c.witness) found.classes then Held else Vacuous) else Undecided
