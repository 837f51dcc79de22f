-- How the check of a report ends.
-- By the law that every legal history is mediated, by that of unique reports, and by cases on the status.
use Rattle.std.proofs.Common.{◌≡◌, ℕ, Bool, true, ◌↔◌, List, Result, Ok, Err, inl, inr, refl}
use Rattle.audit_check.specs.Checked.{without_close}
use Rattle.audit_check.specs.Reported.{IsFaultLine, IsReported, IsUnique}
use Rattle.hist_model.specs.Legal.{Finished}
use Rattle.hist_model.specs.ReportAudit.{judging_by}
use Rattle.hist_model.specs.declared.event.Event.{Event}
use Rattle.hist_model.specs.declared.policy.Policy.{Policy}
use Rattle.hist_model.specs.declared.script.Script.{Script}
use Rattle.io_edge.specs.FileState.{FileState, SameFiles}
use Rattle.io_edge.specs.SinkState.{SinkState}
use Rattle.mediation.proofs.Mediation.{mediated}
use Rattle.program_files.proofs.Reading.{report_before, report_is_before}
use Rattle.program_files.specs.Printed.{Printed, status_of}
use Rattle.play_words.specs.Checks.{AreChecked, BytesCheckEnds, CheckEnds, IsFound}
use Rattle.play_words.specs.Findings.{findings}
use Rattle.program_files.specs.Inputs.{PolicyIs, ReportIs, ScriptIs}
use Rattle.program_files.specs.Refusals.{InputRefused, ReportRefused}
use Rattle.program_files.specs.declared.status.InputFile.TheVariants.{Policy as PolicyFile, Script as ScriptFile, Report as ReportFile}
use Rattle.program_files.specs.declared.status.Refusal.TheVariants.{ReadFault, TooLong, BadPolicy, BadScript}
use Rattle.program_files.specs.declared.status.Status.{Status}
use Rattle.program_files.specs.declared.status.Status.TheVariants.{Done, Refused, WriteFault, NoMemory, NotReport}

-- ---- The bytes of a report

-- what was found of a history is that of a mediated one
is_found : (P : Policy) (S : Script) (bytes : List ℕ) (H : List Event) (finished : Bool) → IsReported P S bytes H → ((finished ≡ true) ↔ Finished (without_close H)) → IsFound P S bytes H finished
is_found P S bytes H finished reported ends = record { reported = reported; mediated = mediated P S H reported.legal.0 reported.legal.1; ends = ends }

-- the bytes are a report
pub found_ends : (P : Policy) (S : Script) (bytes : List ℕ) (H : List Event) (finished : Bool) (old new : SinkState) (r : Result (Unit {0}) Status)
    → IsReported P S bytes H → ((finished ≡ true) ↔ Finished (without_close H)) → Printed (findings (judging_by P.rules) H finished) old new r → BytesCheckEnds P S bytes old new (status_of r)
found_ends P S bytes H finished old new (Ok u) reported ends p = ((H, finished, is_found P S bytes H finished reported ends, p.0), p.1)
found_ends P S bytes H finished old new (Err WriteFault) reported ends p = (p.0, (H, finished, is_found P S bytes H finished reported ends, p.1))
found_ends P S bytes H finished old new (Err NoMemory) reported ends p = inr (H, finished, is_found P S bytes H finished reported ends, p)
found_ends P S bytes H finished old new (Err status) reported ends p = absurd p

-- they are none
pub not_found_ends : (P : Policy) (S : Script) (bytes : List ℕ) (line : ℕ) (sink : SinkState) → IsUnique P S bytes → IsFaultLine P S bytes line → BytesCheckEnds P S bytes sink sink (NotReport line)
not_found_ends P S bytes line sink unique first = (record { first = first; none = λ H reported. unique.either H line reported first }, λ t. refl)

-- ---- The three files

-- the policy or the script wasn't taken
pub check_stops : (files after : FileState) (sink : SinkState) (policy script report : List ℕ) (status : Status) → InputRefused files after policy script status
    → CheckEnds files after sink sink policy script report status
check_stops files after sink policy script report NoMemory h = inl (λ t. refl)
check_stops files after sink policy script report (Refused (ReadFault PolicyFile)) h = (h, λ t. refl)
check_stops files after sink policy script report (Refused (TooLong PolicyFile)) h = (h, λ t. refl)
check_stops files after sink policy script report (Refused (BadPolicy error)) h = (h, λ t. refl)
check_stops files after sink policy script report (Refused (ReadFault ScriptFile)) h = (h, λ t. refl)
check_stops files after sink policy script report (Refused (TooLong ScriptFile)) h = (h, λ t. refl)
check_stops files after sink policy script report (Refused (BadScript error)) h = (h, λ t. refl)
check_stops files after sink policy script report status h = absurd h

-- the report wasn't
pub report_stops : (files mid after : FileState) (sink : SinkState) (policy script report : List ℕ) (P : Policy) (S : Script) (status : Status) → SameFiles files mid → PolicyIs files policy (Ok P)
    → ScriptIs files script (Ok S) → ReportRefused mid after report status → CheckEnds files after sink sink policy script report status
report_stops files mid after sink policy script report P S status same policy_is script_is h = by status (report_before files mid after report same status h)
  where
    by : (status : Status) → ReportRefused files after report status → CheckEnds files after sink sink policy script report status
    by (Refused (ReadFault ReportFile)) r = ((P, S, policy_is, script_is, r), λ t. refl)
    by (Refused (TooLong ReportFile)) r = ((P, S, policy_is, script_is, r), λ t. refl)
    by NoMemory r = inl (λ t. refl)
    by status r = absurd r

-- all three were read
pub read_ends : (files mid after : FileState) (old new : SinkState) (policy script report : List ℕ) (P : Policy) (S : Script) (bytes : List ℕ) (status : Status) → SameFiles files mid
    → PolicyIs files policy (Ok P) → ScriptIs files script (Ok S) → ReportIs mid report bytes → BytesCheckEnds P S bytes old new status → CheckEnds files after old new policy script report status
read_ends files mid after old new policy script report P S bytes status same policy_is script_is report_is h = by status h
  where
    are : AreChecked files policy script report P S bytes
    are = record { policy_is = policy_is; script_is = script_is; report_is = report_is_before files mid after report same bytes report_is }

    by : (status : Status) → BytesCheckEnds P S bytes old new status → CheckEnds files after old new policy script report status
    by Done e = (P, S, bytes, are, e)
    by WriteFault e = (P, S, bytes, are, e)
    by NoMemory e = inr (P, S, bytes, are, e)
    by (NotReport line) e = (P, S, bytes, are, e)
    by status e = absurd e
