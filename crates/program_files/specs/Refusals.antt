-- What a sink took before a text is begun, and why the bytes of a file weren't read or taken.
use Rattle.std.specs.Prelude.{◌≡◌, ◌⊎◌, ℕ, true, false, List, IsSome, Option, Some, None, Ok, Err}
use Rattle.hist_model.specs.declared.policy.Policy.{Policy}
use Rattle.hist_model.specs.declared.script.Script.{Script}
use Rattle.io_edge.specs.Faults.{Rose}
use Rattle.io_edge.specs.FileState.{FileState, ReadsPast}
use Rattle.io_edge.specs.SinkState.{SinkState}
use Rattle.program_files.specs.Inputs.{ClaimsAre, PolicyIs, ScriptIs, policy_limit, script_limit, report_limit, calls_limit, claims_limit}
use Rattle.program_files.specs.declared.status.InputFile.{InputFile}
use Rattle.program_files.specs.declared.status.InputFile.TheVariants.{Policy as PolicyFile, Script as ScriptFile, Report as ReportFile}
use Rattle.program_files.specs.declared.status.InputFile.TheVariants.{Calls as CallsFile, Claims as ClaimsFile}
use Rattle.program_files.specs.declared.status.InputFile.TheVariants.{NewPolicy as NewPolicyFile}
use Rattle.program_files.specs.declared.status.Refusal.TheVariants.{ReadFault, TooLong, BadPolicy, BadScript, BadNewPolicy, BadClaims}
use Rattle.program_files.specs.declared.status.Status.{Status}
use Rattle.program_files.specs.declared.status.Status.TheVariants.{Refused, NoMemory}

-- ---- What was printed

-- the sink took nothing
abbrev pub TookNothing : SinkState → SinkState → Type 0
TookNothing old new = old.tells ≡ true → new.taken ≡ old.taken

-- all that the sink took stands where it belongs
abbrev pub Stands : SinkState → Type 0
Stands sink = sink.pending ≡ false

-- ---- What was read

-- the file that is open, if one is, is that of this name
abbrev pub OpenIs : FileState → FileState → List ℕ → Type 0
OpenIs files after name = files.tells ≡ true → IsSome after.current → after.current ≡ Some name

-- the source failed: a sound one, only where it has no file of this name
-- where a read failed, the file that it failed on is still open, and it is this one
abbrev pub CannotRead : FileState → FileState → List ℕ → Type 0
CannotRead files after name = Rose files.faults after.faults × (files.sound ≡ true → files.bytes name ≡ None) × OpenIs files after name

-- no file was opened after the one of this name
abbrev pub OpenedLast : FileState → FileState → List ℕ → Type 0
OpenedLast files after name = files.tells ≡ true → after.current ≡ Some name

-- why the bytes of a file weren't read: this file's, of which there may be so many
abbrev pub FileRefused : InputFile → ℕ → FileState → FileState → List ℕ → Status → Type 0
FileRefused file limit files after name (Refused (ReadFault which)) = (which ≡ file) × CannotRead files after name
FileRefused file limit files after name (Refused (TooLong which)) = (which ≡ file) × ReadsPast limit files name after
FileRefused file limit files after name NoMemory = Unit {0}
FileRefused file limit files after name _ = ⊥

-- why the policy wasn't taken
abbrev pub PolicyRefused : FileState → FileState → List ℕ → Status → Type 0
PolicyRefused files after policy (Refused (ReadFault PolicyFile)) = CannotRead files after policy
PolicyRefused files after policy (Refused (TooLong PolicyFile)) = ReadsPast policy_limit files policy after
PolicyRefused files after policy (Refused (BadPolicy error)) = PolicyIs files policy (Err error) × OpenedLast files after policy
PolicyRefused files after policy NoMemory = Unit {0}
PolicyRefused files after policy _ = ⊥

-- why the script wasn't taken
abbrev pub ScriptRefused : FileState → FileState → List ℕ → Status → Type 0
ScriptRefused files after script (Refused (ReadFault ScriptFile)) = CannotRead files after script
ScriptRefused files after script (Refused (TooLong ScriptFile)) = ReadsPast script_limit files script after
ScriptRefused files after script (Refused (BadScript error)) = ScriptIs files script (Err error)
ScriptRefused files after script NoMemory = Unit {0}
ScriptRefused files after script _ = ⊥

-- a policy was taken, and then the script wasn't
abbrev pub OnlyPolicy : FileState → FileState → List ℕ → List ℕ → Status → Type 0
OnlyPolicy files after policy script status = (P : Policy) × PolicyIs files policy (Ok P) × ScriptRefused files after script status

-- why the report wasn't taken
abbrev pub ReportRefused : FileState → FileState → List ℕ → Status → Type 0
ReportRefused files after report (Refused (ReadFault ReportFile)) = CannotRead files after report
ReportRefused files after report (Refused (TooLong ReportFile)) = ReadsPast report_limit files report after
ReportRefused files after report NoMemory = Unit {0}
ReportRefused files after report _ = ⊥

-- why the calls weren't taken
abbrev pub CallsRefused : FileState → FileState → List ℕ → Status → Type 0
CallsRefused files after calls (Refused (ReadFault CallsFile)) = CannotRead files after calls
CallsRefused files after calls (Refused (TooLong CallsFile)) = ReadsPast calls_limit files calls after
CallsRefused files after calls NoMemory = Unit {0}
CallsRefused files after calls _ = ⊥

-- a policy was taken, and then the calls weren't
abbrev pub OnlyPolicyOfCalls : FileState → FileState → List ℕ → List ℕ → Status → Type 0
OnlyPolicyOfCalls files after policy calls status = (P : Policy) × PolicyIs files policy (Ok P) × CallsRefused files after calls status

-- why the policy that would take the other's place wasn't taken
abbrev pub NewPolicyRefused : FileState → FileState → List ℕ → Status → Type 0
NewPolicyRefused files after policy (Refused (ReadFault NewPolicyFile)) = CannotRead files after policy
NewPolicyRefused files after policy (Refused (TooLong NewPolicyFile)) = ReadsPast policy_limit files policy after
NewPolicyRefused files after policy (Refused (BadNewPolicy error)) = PolicyIs files policy (Err error)
NewPolicyRefused files after policy NoMemory = Unit {0}
NewPolicyRefused files after policy _ = ⊥

-- a policy was taken, and then the one that would take its place wasn't
abbrev pub OnlyOldPolicy : FileState → FileState → List ℕ → List ℕ → Status → Type 0
OnlyOldPolicy files after old new status = (P : Policy) × PolicyIs files old (Ok P) × NewPolicyRefused files after new status

-- why two policies weren't both taken
abbrev pub PoliciesRefused : FileState → FileState → List ℕ → List ℕ → Status → Type 0
PoliciesRefused files after old new (Refused refusal) =
    PolicyRefused files after old (Refused refusal) ⊎ OnlyOldPolicy files after old new (Refused refusal)
PoliciesRefused files after old new NoMemory = Unit {0}
PoliciesRefused files after old new _ = ⊥

-- why the script that is named wasn't taken
abbrev pub NamedScriptRefused : FileState → FileState → Option (List ℕ) → Status → Type 0
NamedScriptRefused files after (Some name) status = ScriptRefused files after name status
NamedScriptRefused files after None status = ⊥

-- two policies were taken, and then the script that is named wasn't
abbrev pub OnlyPolicies : FileState → FileState → List ℕ → List ℕ → Option (List ℕ) → Status → Type 0
OnlyPolicies files after old new script status =
    (P : Policy) × (Q : Policy) × PolicyIs files old (Ok P) × PolicyIs files new (Ok Q) × NamedScriptRefused files after script status

-- why the claims weren't taken
abbrev pub ClaimsRefused : FileState → FileState → List ℕ → Status → Type 0
ClaimsRefused files after claims (Refused (ReadFault ClaimsFile)) = CannotRead files after claims
ClaimsRefused files after claims (Refused (TooLong ClaimsFile)) = ReadsPast claims_limit files claims after
ClaimsRefused files after claims (Refused (BadClaims error)) = ClaimsAre files claims (Err error)
ClaimsRefused files after claims NoMemory = Unit {0}
ClaimsRefused files after claims _ = ⊥

-- a policy was taken, and then the claims weren't
abbrev pub OnlyPolicyOfClaims : FileState → FileState → List ℕ → List ℕ → Status → Type 0
OnlyPolicyOfClaims files after policy claims status = (P : Policy) × PolicyIs files policy (Ok P) × ClaimsRefused files after claims status

-- a policy and a script were taken, and then the report wasn't
abbrev pub OnlyScript : FileState → FileState → List ℕ → List ℕ → List ℕ → Status → Type 0
OnlyScript files after policy script report status =
    (P : Policy) × (S : Script) × PolicyIs files policy (Ok P) × ScriptIs files script (Ok S) × ReportRefused files after report status

-- why the policy and the script weren't both taken
abbrev pub InputRefused : FileState → FileState → List ℕ → List ℕ → Status → Type 0
InputRefused files after policy script (Refused (ReadFault PolicyFile)) = PolicyRefused files after policy (Refused (ReadFault PolicyFile))
InputRefused files after policy script (Refused (TooLong PolicyFile)) = PolicyRefused files after policy (Refused (TooLong PolicyFile))
InputRefused files after policy script (Refused (BadPolicy error)) = PolicyRefused files after policy (Refused (BadPolicy error))
InputRefused files after policy script (Refused (ReadFault ScriptFile)) =
    OnlyPolicy files after policy script (Refused (ReadFault ScriptFile))
InputRefused files after policy script (Refused (TooLong ScriptFile)) = OnlyPolicy files after policy script (Refused (TooLong ScriptFile))
InputRefused files after policy script (Refused (BadScript error)) = OnlyPolicy files after policy script (Refused (BadScript error))
InputRefused files after policy script NoMemory = Unit {0}
InputRefused files after policy script _ = ⊥
