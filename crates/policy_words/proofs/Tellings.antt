-- How a word ends that tells something of policies.
-- By cases on the status and the ending, and since no reading changes files.
use Rattle.std.proofs.Common.{◌≡◌, ℕ, List, inl, inr, refl, sym, ap, subst}
use Rattle.std.specs.Prelude.{Option, Some, None, Ok, Err}
use Rattle.hist_model.specs.declared.policy.Policy.{Policy}
use Rattle.hist_model.specs.declared.script.Script.{Script}
use Rattle.io_edge.specs.FileState.{FileState, SameFiles}
use Rattle.io_edge.specs.SinkState.{SinkState}
use Rattle.policy_claims.specs.Told.{IsToldOf}
use Rattle.policy_claims.specs.declared.claims.Claims.{Claims}
use Rattle.policy_classes.specs.declared.ending.Ending.{Ending}
use Rattle.policy_classes.specs.declared.ending.Ending.TheVariants.{Alike, Otherwise, Undecided}
use Rattle.policy_classes.specs.declared.ending.Told.{Told}
use Rattle.policy_lint.specs.Found.{Tells as TellsOf}
use Rattle.policy_compare.specs.Compared.{AreEqual, IsComparison}
use Rattle.program_files.proofs.Reading.{claims_are_before, claims_before, script_before, script_is_before}
use Rattle.program_files.specs.Printed.{Printed}
use Rattle.program_files.specs.Inputs.{ClaimsAre, NamedScriptIs, PolicyHas, PolicyIs, policy_limit}
use Rattle.program_files.specs.Refusals.{ClaimsRefused, FileRefused, NamedScriptRefused, PoliciesRefused, PolicyRefused, ScriptRefused}
use Rattle.policy_words.specs.Tellings.{ClaimsEnds, CompareEnds, IsPrinted, LintEnds, TellingEnds, TellsOfBytes, TellsOfClaims, TellsOfPolicies, filters_of, status_of_ending}
use Rattle.program_files.specs.declared.status.InputFile.TheVariants.{Policy as PolicyFile}
use Rattle.program_files.specs.declared.status.Refusal.{Refusal}
use Rattle.program_files.specs.declared.status.Status.{Status}
use Rattle.program_files.specs.declared.status.Status.TheVariants.{NoMemory, Refused, WriteFault}

-- ---- What is told

-- all of it was printed
pub all_told : (told : Told) (old new : SinkState) (status : Status) → Printed told.text old new (Ok tt) → status ≡ status_of_ending told.ending → IsPrinted told old new status
all_told told old new status p e = subst (IsPrinted told old new) (sym e) (by told.ending refl)
  where
    by : (ending : Ending) → told.ending ≡ ending → IsPrinted told old new (status_of_ending ending)
    by Alike is = (told, refl, sym (ap status_of_ending is), p.0, p.1)
    by Otherwise is = (told, refl, sym (ap status_of_ending is), p.0, p.1)
    by Undecided is = (told, refl, sym (ap status_of_ending is), p.0, p.1)

-- a part of it was
pub part_told : (told : Told) (old new : SinkState) (status : Status) → Printed told.text old new (Err status) → IsPrinted told old new status
part_told told old new WriteFault p = (p.0, (told, refl, p.1))
part_told told old new NoMemory p = inr (told, refl, p)
part_told told old new status p = absurd p

-- it may be told of the files
pub told_ends : (told : Told) (Tells : Told → Type 0) (Stops : Refusal → Type 0) (old new : SinkState) (status : Status) → Tells told → IsPrinted told old new status → TellingEnds Tells Stops old new status
told_ends told Tells Stops old new status tells h = by status h
  where
    same : (other : Told) → other ≡ told → Tells other
    same other e = subst Tells (sym e) tells

    by : (status : Status) → IsPrinted told old new status → TellingEnds Tells Stops old new status
    by (Refused refusal) h = absurd h.0
    by WriteFault h = (h.0, (h.1.0, same h.1.0 h.1.1, h.1.2))
    by NoMemory (inl nothing) = inl nothing
    by NoMemory (inr h) = inr (h.0, same h.0 h.1, h.2)
    by status h = (h.0, same h.0 h.1, h.2, h.3, h.4)

-- ---- Two policies

-- they weren't both taken
pub policies_stop : (files after : FileState) (sink : SinkState) (old new : List ℕ) (script : Option (List ℕ)) (status : Status) → PoliciesRefused files after old new status
    → CompareEnds files after sink sink old new script status
policies_stop files after sink old new script (Refused refusal) h = (inl h, λ t. refl)
policies_stop files after sink old new script NoMemory h = inl (λ t. refl)
policies_stop files after sink old new script status h = absurd h

-- the script that is named wasn't
pub script_stops : (files mid after : FileState) (sink : SinkState) (old new : List ℕ) (script : Option (List ℕ)) (P Q : Policy) (status : Status) → SameFiles files mid → PolicyIs files old (Ok P)
    → PolicyIs files new (Ok Q) → NamedScriptRefused mid after script status → CompareEnds files after sink sink old new script status
script_stops files mid after sink old new None P Q status same old_is new_is h = absurd h
script_stops files mid after sink old new (Some name) P Q status same old_is new_is h = by status (script_before files mid after name same status h)
  where
    by : (status : Status) → ScriptRefused files after name status → CompareEnds files after sink sink old new (Some name) status
    by (Refused refusal) r = (inr (P, Q, old_is, new_is, r), λ t. refl)
    by NoMemory r = inl (λ t. refl)
    by status r = absurd r

-- it is the script that is named, whether it is looked for before or after
named_before : (files mid : FileState) (script : Option (List ℕ)) (S : Option Script) → SameFiles files mid → NamedScriptIs mid script S → NamedScriptIs files script S
named_before files mid (Some name) (Some S) same h = script_is_before files mid mid name same (Ok S) h
named_before files mid None None same h = tt
named_before files mid (Some name) None same h = absurd h
named_before files mid None (Some S) same h = absurd h

-- all were read
pub policies_told : (files mid after : FileState) (before printed : SinkState) (old new : List ℕ) (script : Option (List ℕ)) (P Q : Policy) (S : Option Script) (told : Told) (status : Status)
    → SameFiles files mid → PolicyIs files old (Ok P) → PolicyIs files new (Ok Q) → NamedScriptIs mid script S → IsComparison P.rules Q.rules (filters_of S) told
    → (told.ending ≡ Alike → AreEqual P.rules Q.rules) → (told.ending ≡ Otherwise → ¬ (AreEqual P.rules Q.rules)) → IsPrinted told before printed status
    → CompareEnds files after before printed old new script status
policies_told files mid after before printed old new script P Q S told status same old_is new_is script_is is equal unequal shown =
    told_ends told (TellsOfPolicies files old new script) _ before printed status (P, Q, S, old_is, new_is, named_before files mid script S same script_is, is, equal, unequal) shown

-- ---- Claims

-- the policy wasn't taken
pub policy_stops : (files after : FileState) (sink : SinkState) (policy claims : List ℕ) (status : Status) → PolicyRefused files after policy status → ClaimsEnds files after sink sink policy claims status
policy_stops files after sink policy claims (Refused refusal) h = (inl h, λ t. refl)
policy_stops files after sink policy claims NoMemory h = inl (λ t. refl)
policy_stops files after sink policy claims status h = absurd h

-- the claims weren't
pub claims_stop : (files mid after : FileState) (sink : SinkState) (policy claims : List ℕ) (P : Policy) (status : Status) → SameFiles files mid → PolicyIs files policy (Ok P) → ClaimsRefused mid after claims status
    → ClaimsEnds files after sink sink policy claims status
claims_stop files mid after sink policy claims P status same policy_is h = by status (claims_before files mid after claims same status h)
  where
    by : (status : Status) → ClaimsRefused files after claims status → ClaimsEnds files after sink sink policy claims status
    by (Refused refusal) r = (inr (P, policy_is, r), λ t. refl)
    by NoMemory r = inl (λ t. refl)
    by status r = absurd r

-- both were read
pub claims_told : (files mid after : FileState) (old new : SinkState) (policy claims : List ℕ) (P : Policy) (C : Claims) (told : Told) (status : Status) → SameFiles files mid → PolicyIs files policy (Ok P)
    → ClaimsAre mid claims (Ok C) → IsToldOf P.rules C told → IsPrinted told old new status → ClaimsEnds files after old new policy claims status
claims_told files mid after old new policy claims P C told status same policy_is claims_are is printed =
    told_ends told (TellsOfClaims files policy claims) _ old new status (P, C, policy_is, claims_are_before files mid after claims same (Ok C) claims_are, is) printed

-- ---- One policy

-- the file wasn't read
pub bytes_stop : (files after : FileState) (sink : SinkState) (policy : List ℕ) (status : Status) → FileRefused PolicyFile policy_limit files after policy status → LintEnds files after sink sink policy status
bytes_stop files after sink policy (Refused refusal) h = (h, λ t. refl)
bytes_stop files after sink policy NoMemory h = inl (λ t. refl)
bytes_stop files after sink policy status h = absurd h

-- it was
pub bytes_told : (files after : FileState) (old new : SinkState) (policy bytes : List ℕ) (told : Told) (status : Status) → PolicyHas files policy bytes → TellsOf bytes told
    → IsPrinted told old new status → LintEnds files after old new policy status
bytes_told files after old new policy bytes told status has tells shown = told_ends told (TellsOfBytes files policy) _ old new status (bytes, has, tells) shown
