-- What the answer of a word means that tells something of policies: what it told of the files, and why it stopped.
use Rattle.std.specs.Prelude.{◌≡◌, ◌⊎◌, ◌++◌, ℕ, true, List, Option, Ok}
use Rattle.std.specs.Option.{option_map}
use Rattle.hist_model.specs.declared.policy.Policy.{Policy}
use Rattle.hist_model.specs.declared.script.FilterLine.{FilterLine}
use Rattle.hist_model.specs.declared.script.Script.{Script}
use Rattle.io_edge.specs.Faults.{Rose}
use Rattle.io_edge.specs.FileState.{FileState}
use Rattle.io_edge.specs.SinkState.{SinkState, AddsPrefix}
use Rattle.policy_claims.specs.Told.{IsToldOf}
use Rattle.policy_claims.specs.declared.claims.Claims.{Claims}
use Rattle.policy_classes.specs.declared.ending.Ending.{Ending}
use Rattle.policy_classes.specs.declared.ending.Ending.TheVariants.{Alike, Otherwise, Undecided}
use Rattle.policy_classes.specs.declared.ending.Told.{Told}
use Rattle.policy_compare.specs.Compared.{AreEqual, IsComparison}
use Rattle.policy_lint.specs.Found.{Tells as TellsOf}
use Rattle.program_files.specs.Inputs.{ClaimsAre, NamedScriptIs, PolicyHas, PolicyIs, policy_limit}
use Rattle.program_files.specs.Refusals.{FileRefused, OnlyPolicies, OnlyPolicyOfClaims, PoliciesRefused, PolicyRefused, Stands, TookNothing}
use Rattle.program_files.specs.declared.status.InputFile.TheVariants.{Policy as PolicyFile}
use Rattle.program_files.specs.declared.status.Refusal.{Refusal}
use Rattle.program_files.specs.declared.status.Status.{Status}
use Rattle.program_files.specs.declared.status.Status.TheVariants.{Done, NoMemory, Refused, WriteFault, Otherwise as IsOtherwise}
use Rattle.program_files.specs.declared.status.Status.TheVariants.{Undecided as IsUndecided}

-- ---- Any such word

-- the status with which it ends
abbrev pub status_of_ending : Ending → Status
status_of_ending Alike = Done
status_of_ending Otherwise = IsOtherwise
status_of_ending Undecided = IsUndecided

-- the sink took a prefix of something that may be told
abbrev pub TookPrefixOf : (Told → Type 0) → SinkState → SinkState → Type 0
TookPrefixOf Tells old new = (told : Told) × Tells told × (old.tells ≡ true → AddsPrefix old.taken told.text new.taken)

-- the sink took all of it, which stands, and the status is that of its ending
abbrev pub TookAllOf : (Told → Type 0) → SinkState → SinkState → Status → Type 0
TookAllOf Tells old new status =
    (told : Told) × Tells told × (status ≡ status_of_ending told.ending)
    × (old.tells ≡ true → new.taken ≡ old.taken ++ told.text) × Stands new

-- how it ended: a file is refused, or what may be told of the files was printed
abbrev pub TellingEnds : (Told → Type 0) → (Refusal → Type 0) → SinkState → SinkState → Status → Type 0
TellingEnds Tells Stops old new (Refused refusal) = Stops refusal × TookNothing old new
TellingEnds Tells Stops old new WriteFault = Rose old.faults new.faults × TookPrefixOf Tells old new
TellingEnds Tells Stops old new NoMemory = TookNothing old new ⊎ TookPrefixOf Tells old new
TellingEnds Tells Stops old new status = TookAllOf Tells old new status

-- how it ended where this is told of the files, and no file is refused
abbrev pub IsPrinted : Told → SinkState → SinkState → Status → Type 0
IsPrinted told old new status = TellingEnds (λ other. other ≡ told) (λ refusal. ⊥) old new status

-- ---- Two policies

-- the filters of a script, if there is one
abbrev pub filters_of : Option Script → Option (List FilterLine)
filters_of script = option_map (λ S. S.filters) script

-- it is told of the policies of two files, and of the filters of a script, if one is named
abbrev pub TellsOfPolicies : FileState → List ℕ → List ℕ → Option (List ℕ) → Told → Type 0
TellsOfPolicies files old new script told =
    (P : Policy) × (Q : Policy) × (S : Option Script)
    × PolicyIs files old (Ok P) × PolicyIs files new (Ok Q) × NamedScriptIs files script S
    × IsComparison P.rules Q.rules (filters_of S) told
    × (told.ending ≡ Alike → AreEqual P.rules Q.rules) × (told.ending ≡ Otherwise → ¬ (AreEqual P.rules Q.rules))

-- the old one isn't taken, or it is and the new one isn't, or both are and the script isn't
abbrev pub PoliciesStop : FileState → FileState → List ℕ → List ℕ → Option (List ℕ) → Refusal → Type 0
PoliciesStop files after old new script refusal =
    PoliciesRefused files after old new (Refused refusal) ⊎ OnlyPolicies files after old new script (Refused refusal)

-- how the comparison ended: the sink before it and after it, and the names of the files of the old policy, the new one, and the script
abbrev pub CompareEnds : FileState → FileState → SinkState → SinkState → List ℕ → List ℕ → Option (List ℕ) → Status → Type 0
CompareEnds files after before printed old new script status =
    TellingEnds (TellsOfPolicies files old new script) (PoliciesStop files after old new script) before printed status

-- ---- Claims

-- it is told of the claims of one file about the policy of another
abbrev pub TellsOfClaims : FileState → List ℕ → List ℕ → Told → Type 0
TellsOfClaims files policy claims told =
    (P : Policy) × (C : Claims) × PolicyIs files policy (Ok P) × ClaimsAre files claims (Ok C) × IsToldOf P.rules C told

-- the policy isn't taken, or it is and the claims aren't
abbrev pub ClaimsStop : FileState → FileState → List ℕ → List ℕ → Refusal → Type 0
ClaimsStop files after policy claims refusal =
    PolicyRefused files after policy (Refused refusal) ⊎ OnlyPolicyOfClaims files after policy claims (Refused refusal)

-- how the check of claims ended
abbrev pub ClaimsEnds : FileState → FileState → SinkState → SinkState → List ℕ → List ℕ → Status → Type 0
ClaimsEnds files after old new policy claims status =
    TellingEnds (TellsOfClaims files policy claims) (ClaimsStop files after policy claims) old new status

-- ---- One policy

-- it is told of the bytes of a policy's file, be they one or not
abbrev pub TellsOfBytes : FileState → List ℕ → Told → Type 0
TellsOfBytes files policy told = (bytes : List ℕ) × PolicyHas files policy bytes × TellsOf bytes told

-- how the search for mistakes ended
abbrev pub LintEnds : FileState → FileState → SinkState → SinkState → List ℕ → Status → Type 0
LintEnds files after old new policy status =
    TellingEnds (TellsOfBytes files policy)
    (λ refusal. FileRefused PolicyFile policy_limit files after policy (Refused refusal)) old new status
