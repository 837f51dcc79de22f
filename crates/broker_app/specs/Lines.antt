-- The exit status and the line on standard error, for each end.
use Rattle.std.specs.Prelude.{ℕ, List, [], ◌++◌, codes, decimal}
use Rattle.call_lines.specs.declared.error.CallsError.{CallsError}
use Rattle.policy_reader.specs.declared.error.PolicyError.{PolicyError}
use Rattle.policy_reader.specs.declared.error.PolicyError.TheVariants.{NotJson, BadKey, BadValue, TooMany}
use Rattle.script_reader.specs.declared.error.ScriptError.{ScriptError}
use Rattle.script_reader.specs.declared.error.ScriptError.TheVariants.{BadLine, TooLarge}
use Rattle.step_session.specs.Reasons.{reason_text}
use Rattle.program_files.specs.declared.status.InputFile.{InputFile}
use Rattle.program_files.specs.declared.status.InputFile.TheVariants.{Policy as PolicyFile, Script as ScriptFile, Report as ReportFile}
use Rattle.program_files.specs.declared.status.InputFile.TheVariants.{Calls as CallsFile, Claims as ClaimsFile}
use Rattle.program_files.specs.declared.status.InputFile.TheVariants.{NewPolicy as NewPolicyFile, Requests as RequestsFile}
use Rattle.program_files.specs.declared.status.Refusal.{Refusal}
use Rattle.program_files.specs.declared.status.Refusal.TheVariants.{ReadFault, TooLong, BadPolicy, BadScript, BadCalls, HasRequests}
use Rattle.program_files.specs.declared.status.Refusal.TheVariants.{BadNewPolicy, BadClaims}
use Rattle.program_files.specs.declared.status.Status.{Status}
use Rattle.program_files.specs.declared.status.Status.TheVariants.{Done, Usage, Refused, ContainerRefused, WriteFault, NoMemory}
use Rattle.program_files.specs.declared.status.Status.TheVariants.{NotReport, PidsOverlap, Otherwise, Undecided}

-- the name of a file in a line, with the byte that ends the line
abbrev pub file_named : InputFile → List ℕ
file_named PolicyFile = codes "policy\n"
file_named NewPolicyFile = codes "new policy\n"
file_named ScriptFile = codes "script\n"
file_named ReportFile = codes "report\n"
file_named CallsFile = codes "calls\n"
file_named ClaimsFile = codes "claims\n"
file_named RequestsFile = codes "requests\n"

-- what is refused of rules
abbrev pub rules_line : PolicyError → List ℕ
rules_line NotJson = codes "not JSON\n"
rules_line (BadKey path) = codes "unknown key at " ++ (path ++ codes "\n")
rules_line (BadValue path) = codes "bad value at " ++ (path ++ codes "\n")
rules_line TooMany = codes "too many rules\n"

-- the number of a file's line, from 1, behind a front, and what is wrong with the line
abbrev pub numbered_line : List ℕ → ℕ → List ℕ → List ℕ
numbered_line front number reason = front ++ (decimal number ++ (codes ": " ++ (reason ++ codes "\n")))

abbrev pub script_line : ScriptError → List ℕ
script_line (BadLine number reason) = numbered_line (codes "script: line ") number (reason_text reason)
script_line (TooLarge number) = numbered_line (codes "script: line ") number (codes "too large")

-- why calls are refused: the first line that is none
abbrev pub calls_line : CallsError → List ℕ
calls_line error = numbered_line (codes "calls: line ") error.line (reason_text error.reason)

-- why a file wasn't taken
abbrev pub refusal_line : Refusal → List ℕ
refusal_line (ReadFault file) = codes "read fault: " ++ file_named file
refusal_line (TooLong file) = codes "too long: " ++ file_named file
refusal_line (BadPolicy error) = codes "policy: " ++ rules_line error
refusal_line (BadNewPolicy error) = codes "new policy: " ++ rules_line error
refusal_line (BadClaims error) = codes "claims: " ++ rules_line error
refusal_line (BadScript error) = script_line error
refusal_line (BadCalls error) = calls_line error
refusal_line HasRequests = codes "script: requests in the schedule\n"

-- of which container the file is
abbrev pub container_front : ℕ → List ℕ
container_front container = codes "container " ++ (decimal container ++ codes ": ")

-- which containers have ranges of PIDs that overlap
abbrev pub overlap_line : ℕ → ℕ → List ℕ
overlap_line first second = (codes "pod: pids overlap: " ++ decimal first) ++ (codes " " ++ (decimal second ++ codes "\n"))

abbrev pub line_of : Status → List ℕ
line_of Done = []
line_of Usage =
    codes "usage: play POLICY SCRIPT | run POLICY SCRIPT WORKERS CPUS [every EVERY] | stress FROM COUNT | audit-check POLICY SCRIPT REPORT"
    ++ codes " | lanes POLICY SCRIPT CPUS [every EVERY] | handover POLICY SCRIPT EVERY"
    ++ codes " | pod WORKERS CPUS [every EVERY] POLICY SCRIPT .. | pod lanes CPUS [every EVERY] POLICY SCRIPT .."
    ++ codes " | explore POLICY SCRIPT WORKERS DELAYS | step POLICY SCRIPT | judge POLICY SCRIPT | explain POLICY CALLS"
    ++ codes " | compare OLD NEW [SCRIPT] | check POLICY CLAIMS | lint POLICY\n"
line_of (Refused refusal) = refusal_line refusal
line_of (ContainerRefused container refusal) = container_front container ++ refusal_line refusal
line_of WriteFault = codes "write fault\n"
line_of NoMemory = codes "no memory\n"
line_of (NotReport line) = codes "report: line " ++ (decimal line ++ codes "\n")
line_of (PidsOverlap first second) = overlap_line first second
line_of Otherwise = []
line_of Undecided = []
