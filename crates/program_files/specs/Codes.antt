-- The exit status of each end.
use Rattle.std.specs.Prelude.{ℕ}
use Rattle.audit_log.specs.declared.error.ReportError.{ReportError}
use Rattle.audit_log.specs.declared.error.ReportError.TheVariants.{WriteFault as CannotWrite, NoMemory as OutOfMemory}
use Rattle.program_files.specs.declared.status.Refusal.{Refusal}
use Rattle.program_files.specs.declared.status.Refusal.TheVariants.{ReadFault, TooLong, BadPolicy, BadScript, BadCalls, HasRequests}
use Rattle.program_files.specs.declared.status.Refusal.TheVariants.{BadNewPolicy, BadClaims}
use Rattle.program_files.specs.declared.status.Status.{Status}
use Rattle.program_files.specs.declared.status.Status.TheVariants.{Done, Usage, Refused, ContainerRefused, WriteFault, NoMemory}
use Rattle.program_files.specs.declared.status.Status.TheVariants.{NotReport, PidsOverlap, Otherwise, Undecided}

abbrev pub code_of_refusal : Refusal → ℕ
code_of_refusal (ReadFault file) = 2
code_of_refusal (TooLong file) = 3
code_of_refusal (BadPolicy error) = 4
code_of_refusal (BadNewPolicy error) = 4
code_of_refusal (BadClaims error) = 4
code_of_refusal (BadScript error) = 5
code_of_refusal (BadCalls error) = 5
code_of_refusal HasRequests = 5

abbrev pub code_of : Status → ℕ
code_of Done = 0
code_of Usage = 1
code_of (Refused refusal) = code_of_refusal refusal
code_of (ContainerRefused container refusal) = code_of_refusal refusal
code_of WriteFault = 6
code_of NoMemory = 7
code_of (NotReport line) = 9
code_of (PidsOverlap first second) = 10
code_of Otherwise = 11
code_of Undecided = 12

abbrev pub status_of_report : ReportError → Status
status_of_report CannotWrite = WriteFault
status_of_report OutOfMemory = NoMemory
