-- What the bytes of a file are read as, where the file told them, and why there are none; the same of files that others were read before.
-- By the equation that says which bytes they are, since no reading changes files, and by cases on the status.
use Rattle.std.proofs.Common.{◌≡◌, ℕ, ◌<◌, List, length, Option, Result, Ok, Err, inl, inr, ◌∙◌, ap, sym, subst}
use Rattle.std.specs.Prelude.{IsSomeAnd, Some, None}
use Rattle.hist_model.specs.declared.policy.Policy.{Policy}
use Rattle.hist_model.specs.declared.script.Script.{Script}
use Rattle.io_edge.proofs.Laws.{then_rose}
use Rattle.io_edge.specs.FileState.{FileState, ReadsPast, SameFiles}
use Rattle.policy_claims.specs.Claims.{claims as claims_of}
use Rattle.policy_claims.specs.declared.claims.Claims.{Claims}
use Rattle.policy_reader.specs.Policies.{policy as policy_of}
use Rattle.policy_reader.specs.declared.error.PolicyError.{PolicyError}
use Rattle.script_reader.specs.Scripts.{script as script_of, script_file, script_in}
use Rattle.script_reader.specs.declared.file.ScriptFile.{ScriptFile as ScriptFileValue}
use Rattle.script_reader.specs.declared.error.ScriptError.{ScriptError}
use Rattle.program_files.specs.Inputs.{CallsAre, ClaimsAre, HasBytes, PolicyIs, ReadsAs, ReportIs, ScriptFileIs, ScriptIs, calls_limit, claims_limit, policy_limit, report_limit, script_limit}
use Rattle.program_files.specs.Refusals.{CallsRefused, CannotRead, ClaimsRefused, FileRefused, InputRefused, NewPolicyRefused, PoliciesRefused, PolicyRefused, ReportRefused, ScriptRefused}
use Rattle.program_files.specs.declared.status.InputFile.TheVariants.{Policy as PolicyFile, Script as ScriptFile, Report as ReportFile, Calls as CallsFile, Claims as ClaimsFile, NewPolicy as NewPolicyFile}
use Rattle.program_files.specs.declared.status.Refusal.{Refusal}
use Rattle.program_files.specs.declared.status.Refusal.TheVariants.{ReadFault, TooLong, BadPolicy, BadScript, BadNewPolicy, BadClaims}
use Rattle.program_files.specs.declared.status.Status.{Status}
use Rattle.program_files.specs.declared.status.Status.TheVariants.{Refused, NoMemory}

pub reads_as : {A : Type 0} (read : List ℕ → A) (limit : ℕ) (file : Option (List ℕ)) (bytes : List ℕ) (reading : A) → HasBytes limit file bytes → read bytes ≡ reading → ReadsAs read limit file reading
reads_as read limit file bytes reading has is = subst (λ f. ReadsAs read limit f reading) (sym has.0) (has.1, is)

pub policy_unread : (files after : FileState) (name : List ℕ) (status : Status) → FileRefused PolicyFile policy_limit files after name status → PolicyRefused files after name status
policy_unread files after name (Refused (ReadFault PolicyFile)) h = h.1
policy_unread files after name (Refused (ReadFault file)) h = let other = h.0 in cc
policy_unread files after name (Refused (TooLong PolicyFile)) h = h.1
policy_unread files after name (Refused (TooLong file)) h = let other = h.0 in cc
policy_unread files after name NoMemory h = tt
policy_unread files after name status h = absurd h

pub script_unread : (files after : FileState) (name : List ℕ) (status : Status) → FileRefused ScriptFile script_limit files after name status → ScriptRefused files after name status
script_unread files after name (Refused (ReadFault ScriptFile)) h = h.1
script_unread files after name (Refused (ReadFault file)) h = let other = h.0 in cc
script_unread files after name (Refused (TooLong ScriptFile)) h = h.1
script_unread files after name (Refused (TooLong file)) h = let other = h.0 in cc
script_unread files after name NoMemory h = tt
script_unread files after name status h = absurd h

pub report_unread : (files after : FileState) (name : List ℕ) (status : Status) → FileRefused ReportFile report_limit files after name status → ReportRefused files after name status
report_unread files after name (Refused (ReadFault ReportFile)) h = h.1
report_unread files after name (Refused (ReadFault file)) h = let other = h.0 in cc
report_unread files after name (Refused (TooLong ReportFile)) h = h.1
report_unread files after name (Refused (TooLong file)) h = let other = h.0 in cc
report_unread files after name NoMemory h = tt
report_unread files after name status h = absurd h

pub calls_unread : (files after : FileState) (name : List ℕ) (status : Status) → FileRefused CallsFile calls_limit files after name status → CallsRefused files after name status
calls_unread files after name (Refused (ReadFault CallsFile)) h = h.1
calls_unread files after name (Refused (ReadFault file)) h = let other = h.0 in cc
calls_unread files after name (Refused (TooLong CallsFile)) h = h.1
calls_unread files after name (Refused (TooLong file)) h = let other = h.0 in cc
calls_unread files after name NoMemory h = tt
calls_unread files after name status h = absurd h

pub new_policy_unread : (files after : FileState) (name : List ℕ) (status : Status) → FileRefused NewPolicyFile policy_limit files after name status → NewPolicyRefused files after name status
new_policy_unread files after name (Refused (ReadFault NewPolicyFile)) h = h.1
new_policy_unread files after name (Refused (ReadFault file)) h = let other = h.0 in cc
new_policy_unread files after name (Refused (TooLong NewPolicyFile)) h = h.1
new_policy_unread files after name (Refused (TooLong file)) h = let other = h.0 in cc
new_policy_unread files after name NoMemory h = tt
new_policy_unread files after name status h = absurd h

pub claims_unread : (files after : FileState) (name : List ℕ) (status : Status) → FileRefused ClaimsFile claims_limit files after name status → ClaimsRefused files after name status
claims_unread files after name (Refused (ReadFault ClaimsFile)) h = h.1
claims_unread files after name (Refused (ReadFault file)) h = let other = h.0 in cc
claims_unread files after name (Refused (TooLong ClaimsFile)) h = h.1
claims_unread files after name (Refused (TooLong file)) h = let other = h.0 in cc
claims_unread files after name NoMemory h = tt
claims_unread files after name status h = absurd h

-- a script is what its file states, without the lines of another broker's workers
alone : (file : Option (List ℕ)) (reading : Result ScriptFileValue ScriptError) → ReadsAs script_file script_limit file reading → ReadsAs script_of script_limit file (script_in reading)
alone None reading h = absurd h
alone (Some bytes) reading (within, is) = (within, ap script_in is)

pub script_alone : (files : FileState) (name : List ℕ) (F : ScriptFileValue) → ScriptFileIs files name (Ok F) → ScriptIs files name (Ok F.script)
script_alone files name F h = λ t. alone (files.bytes name) (Ok F) (h t)

-- ---- Files of which others were read before

module _ (files mid after : FileState) (name : List ℕ) (same : SameFiles files mid) where
  bytes_before : mid.bytes name ≡ files.bytes name
  bytes_before = ap (λ bytes. bytes name) same.bytes

  pub script_is_before : (reading : Result Script ScriptError) → ScriptIs mid name reading → ScriptIs files name reading
  script_is_before reading h = λ t. subst (λ f. ReadsAs script_of script_limit f reading) bytes_before (h (same.tells ∙ t))

  pub policy_is_before : (reading : Result Policy PolicyError) → PolicyIs mid name reading → PolicyIs files name reading
  policy_is_before reading h = λ t. subst (λ f. ReadsAs policy_of policy_limit f reading) bytes_before (h (same.tells ∙ t))

  pub report_is_before : (bytes : List ℕ) → ReportIs mid name bytes → ReportIs files name bytes
  report_is_before bytes h = λ t. subst (λ f. HasBytes report_limit f bytes) bytes_before (h (same.tells ∙ t))

  pub calls_are_before : (bytes : List ℕ) → CallsAre mid name bytes → CallsAre files name bytes
  calls_are_before bytes h = λ t. subst (λ f. HasBytes calls_limit f bytes) bytes_before (h (same.tells ∙ t))

  pub claims_are_before : (reading : Result Claims PolicyError) → ClaimsAre mid name reading → ClaimsAre files name reading
  claims_are_before reading h = λ t. subst (λ f. ReadsAs claims_of claims_limit f reading) bytes_before (h (same.tells ∙ t))

  past_before : (limit : ℕ) → ReadsPast limit mid name after → ReadsPast limit files name after
  past_before limit h = record {
    given = h.given;
    named = λ t. h.named (same.tells ∙ t);
    longer = λ t. subst (λ (f : Option (List ℕ)). IsSomeAnd f (λ bytes. limit < length bytes)) bytes_before (h.longer (same.tells ∙ t));
  }

  cannot_before : CannotRead mid after name → CannotRead files after name
  cannot_before h = (then_rose files.faults mid.faults after.faults same.faults h.0, λ s. sym bytes_before ∙ h.1 (same.sound ∙ s), λ t is. h.2 (same.tells ∙ t) is)

  policy_before : (status : Status) → PolicyRefused mid after name status → PolicyRefused files after name status
  policy_before (Refused (ReadFault PolicyFile)) h = cannot_before h
  policy_before (Refused (TooLong PolicyFile)) h = past_before policy_limit h
  policy_before (Refused (BadPolicy error)) h = (policy_is_before (Err error) h.0, λ t. h.1 (same.tells ∙ t))
  policy_before NoMemory h = tt
  policy_before status h = absurd h

  pub script_before : (status : Status) → ScriptRefused mid after name status → ScriptRefused files after name status
  script_before (Refused (ReadFault ScriptFile)) h = cannot_before h
  script_before (Refused (TooLong ScriptFile)) h = past_before script_limit h
  script_before (Refused (BadScript error)) h = script_is_before (Err error) h
  script_before NoMemory h = tt
  script_before status h = absurd h

  pub report_before : (status : Status) → ReportRefused mid after name status → ReportRefused files after name status
  report_before (Refused (ReadFault ReportFile)) h = cannot_before h
  report_before (Refused (TooLong ReportFile)) h = past_before report_limit h
  report_before NoMemory h = tt
  report_before status h = absurd h

  pub new_policy_before : (status : Status) → NewPolicyRefused mid after name status → NewPolicyRefused files after name status
  new_policy_before (Refused (ReadFault NewPolicyFile)) h = cannot_before h
  new_policy_before (Refused (TooLong NewPolicyFile)) h = past_before policy_limit h
  new_policy_before (Refused (BadNewPolicy error)) h = policy_is_before (Err error) h
  new_policy_before NoMemory h = tt
  new_policy_before status h = absurd h

  pub claims_before : (status : Status) → ClaimsRefused mid after name status → ClaimsRefused files after name status
  claims_before (Refused (ReadFault ClaimsFile)) h = cannot_before h
  claims_before (Refused (TooLong ClaimsFile)) h = past_before claims_limit h
  claims_before (Refused (BadClaims error)) h = claims_are_before (Err error) h
  claims_before NoMemory h = tt
  claims_before status h = absurd h

  pub calls_before : (status : Status) → CallsRefused mid after name status → CallsRefused files after name status
  calls_before (Refused (ReadFault CallsFile)) h = cannot_before h
  calls_before (Refused (TooLong CallsFile)) h = past_before calls_limit h
  calls_before NoMemory h = tt
  calls_before status h = absurd h

-- ---- Two policies

pub old_stops : (files after : FileState) (old new : List ℕ) (status : Status) → PolicyRefused files after old status → PoliciesRefused files after old new status
old_stops files after old new (Refused refusal) h = inl h
old_stops files after old new NoMemory h = tt
old_stops files after old new status h = absurd h

pub new_stops : (files mid after : FileState) (old new : List ℕ) (P : Policy) (status : Status) → SameFiles files mid → PolicyIs files old (Ok P) → NewPolicyRefused mid after new status
    → PoliciesRefused files after old new status
new_stops files mid after old new P status same policy_is h = by status (new_policy_before files mid after new same status h)
  where
    by : (status : Status) → NewPolicyRefused files after new status → PoliciesRefused files after old new status
    by (Refused refusal) r = inr (P, policy_is, r)
    by NoMemory r = tt
    by status r = absurd r

-- ---- The policy and the script

pub policy_stops : (files after : FileState) (policy script : List ℕ) (status : Status) → PolicyRefused files after policy status → InputRefused files after policy script status
policy_stops files after policy script (Refused (ReadFault PolicyFile)) h = h
policy_stops files after policy script (Refused (TooLong PolicyFile)) h = h
policy_stops files after policy script (Refused (BadPolicy error)) h = h
policy_stops files after policy script NoMemory h = tt
policy_stops files after policy script status h = absurd h

pub script_stops : (files mid after : FileState) (policy script : List ℕ) (P : Policy) (status : Status) → SameFiles files mid → PolicyIs files policy (Ok P) → ScriptRefused mid after script status
    → InputRefused files after policy script status
script_stops files mid after policy script P status same is h = by status (script_before files mid after script same status h)
  where
    by : (status : Status) → ScriptRefused files after script status → InputRefused files after policy script status
    by (Refused (ReadFault ScriptFile)) r = (P, is, r)
    by (Refused (TooLong ScriptFile)) r = (P, is, r)
    by (Refused (BadScript error)) r = (P, is, r)
    by NoMemory r = tt
    by status r = absurd r

-- the same of files that others were read before
pub input_before : (files mid after : FileState) (policy script : List ℕ) (refusal : Refusal) → SameFiles files mid → InputRefused mid after policy script (Refused refusal)
    → InputRefused files after policy script (Refused refusal)
input_before files mid after policy script (ReadFault PolicyFile) same h = policy_before files mid after policy same (Refused (ReadFault PolicyFile)) h
input_before files mid after policy script (TooLong PolicyFile) same h = policy_before files mid after policy same (Refused (TooLong PolicyFile)) h
input_before files mid after policy script (BadPolicy error) same h = policy_before files mid after policy same (Refused (BadPolicy error)) h
input_before files mid after policy script (ReadFault ScriptFile) same h =
    (h.0, policy_is_before files mid after policy same (Ok h.0) h.1, script_before files mid after script same (Refused (ReadFault ScriptFile)) h.2)
input_before files mid after policy script (TooLong ScriptFile) same h =
    (h.0, policy_is_before files mid after policy same (Ok h.0) h.1, script_before files mid after script same (Refused (TooLong ScriptFile)) h.2)
input_before files mid after policy script (BadScript error) same h =
    (h.0, policy_is_before files mid after policy same (Ok h.0) h.1, script_before files mid after script same (Refused (BadScript error)) h.2)
input_before files mid after policy script refusal same h = absurd h
