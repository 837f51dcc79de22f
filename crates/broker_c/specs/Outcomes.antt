-- What a call came to: what was printed, and why it stopped.
use Rattle.std.specs.Prelude.{◌≡◌, ℕ, ◌<◌, ◌≤◌, ◌⊎◌, ◌==◌, Bool, true, false, if◌then◌else◌, nat_le, List, [], length, Option, Some, None}
use Rattle.std.specs.Prelude.{Result, Ok, Err, codes}
use Rattle.hist_model.specs.ReportAudit.{judging_by}
use Rattle.hist_model.specs.declared.event.Event.{Event}
use Rattle.hist_model.specs.declared.policy.Policy.{Policy}
use Rattle.hist_model.specs.declared.script.Script.{Script}
use Rattle.io_edge.specs.SinkState.{AddsPrefix}
use Rattle.judge_pass.specs.Finding.{finding}
use Rattle.policy_classes.specs.declared.ending.Ending.{Ending}
use Rattle.policy_classes.specs.declared.ending.Ending.TheVariants.{Alike, Otherwise}
use Rattle.policy_classes.specs.declared.ending.Told.{Told}
use Rattle.policy_reader.specs.Policies.{policy as policy_of}
use Rattle.policy_reader.specs.declared.error.PolicyError.{PolicyError}
use Rattle.script_reader.specs.Scripts.{script as script_of, script_file}
use Rattle.script_reader.specs.declared.error.ScriptError.{ScriptError}
use Rattle.script_reader.specs.declared.file.ScriptFile.{ScriptFile}
use Rattle.play_words.specs.Generated.{GeneratedIsMediated, generated_summary}
use Rattle.play_words.specs.Checks.{IsFound, IsNotFound}
use Rattle.explore_words.specs.Explorations.{ExploredLaws, IsExploredText}
use Rattle.play_words.specs.Findings.{findings}
use Rattle.play_words.specs.Handovers.{with_ledgers}
use Rattle.program_files.specs.Inputs.{ReadsAs, policy_limit, report_limit, script_limit}
use Rattle.step_words.specs.Judgements.{IsToldOf, judged_history}
use Rattle.broker_app.specs.Lines.{line_of}
use Rattle.play_words.specs.Printings.{Printing}
use Rattle.step_words.specs.Plays.{as_report}
use Rattle.broker_app.specs.Words.{Form, Explore}
use Rattle.program_files.specs.declared.status.InputFile.TheVariants.{Policy as PolicyFile, Script as ScriptsFile, Report as ReportFile}
use Rattle.program_files.specs.declared.status.Refusal.TheVariants.{TooLong, BadPolicy, BadScript, HasRequests}
use Rattle.program_files.specs.declared.status.Status.{Status}
use Rattle.program_files.specs.declared.status.Status.TheVariants.{Done, Usage, Refused, WriteFault, NoMemory, NotReport}
use Rattle.program_files.specs.declared.status.Status.TheVariants.{Otherwise as IsOtherwise}

-- ---- What was read

-- the bytes are within the limit, and are read as this policy, or have this refusal
abbrev pub PolicyReads : List ℕ → Result Policy PolicyError → Type 0
PolicyReads policy reading = ReadsAs policy_of policy_limit (Some policy) reading

-- and as this script
abbrev pub ScriptReads : List ℕ → Result Script ScriptError → Type 0
ScriptReads script reading = ReadsAs script_of script_limit (Some script) reading

-- with these lines of another broker's workers
abbrev pub FileReads : List ℕ → Result ScriptFile ScriptError → Type 0
FileReads script reading = ReadsAs script_file script_limit (Some script) reading

-- the bytes are a policy
abbrev pub IsPolicy : List ℕ → Type 0
IsPolicy policy = (P : Policy) × PolicyReads policy (Ok P)

-- these are the policy and the script of the bytes
abbrev pub AreInput : List ℕ → List ℕ → Policy → Script → Type 0
AreInput policy script P S = PolicyReads policy (Ok P) × ScriptReads script (Ok S)

-- the bytes are a policy and a script
abbrev pub IsInput : List ℕ → List ℕ → Type 0
IsInput policy script = (P : Policy) × (S : Script) × AreInput policy script P S

-- these are the policy of the bytes, and what those of the script state, and what is printed of them holds
pub record AreGiven (policy script : List ℕ) (printing : Printing) (P : Policy) (F : ScriptFile) : Type 0 where
  pub policy_is : PolicyReads policy (Ok P)
  pub file_is : FileReads script (Ok F)
  pub holds : printing.Holds P F

-- the bytes are a policy and a script, and its schedule says what another broker's workers ask for
abbrev pub GivesTurns : List ℕ → List ℕ → Type 0
GivesTurns policy script = (P : Policy) × (F : ScriptFile) × PolicyReads policy (Ok P) × FileReads script (Ok F) × (F.turns ≡ [] → ⊥)

-- ---- What was printed

-- what is printed of what the policy and the script of the bytes play
abbrev pub IsPlay : Printing → List ℕ → List ℕ → List ℕ → Type 0
IsPlay printing policy script printed =
    (P : Policy) × (F : ScriptFile) × AreGiven policy script printing P F × (printed ≡ printing.text P F)

-- a prefix of it
abbrev pub BeginsPlay : Printing → List ℕ → List ℕ → List ℕ → Type 0
BeginsPlay printing policy script printed =
    (P : Policy) × (F : ScriptFile) × AreGiven policy script printing P F × AddsPrefix [] (printing.text P F) printed

-- the report of the history that they play
abbrev pub IsReport : List ℕ → List ℕ → List ℕ → Type 0
IsReport policy script printed = IsPlay as_report policy script printed

-- that report, and the ledgers from which workers are replaced after each so many of their steps
abbrev pub IsHandover : List ℕ → List ℕ → ℕ → List ℕ → Type 0
IsHandover policy script every printed = IsPlay (with_ledgers every) policy script printed

-- what is found of the history that the bytes of a report tell
abbrev pub IsFindings : List ℕ → List ℕ → List ℕ → List ℕ → Type 0
IsFindings policy script report printed =
    (P : Policy) × (S : Script) × (H : List Event) × (finished : Bool) × AreInput policy script P S
    × IsFound P S report H finished × (printed ≡ findings (judging_by P.rules) H finished)

-- a prefix of it
abbrev pub BeginsFindings : List ℕ → List ℕ → List ℕ → List ℕ → Type 0
BeginsFindings policy script report printed =
    (P : Policy) × (S : Script) × (H : List Event) × (finished : Bool) × AreInput policy script P S × IsFound P S report H finished
    × AddsPrefix [] (findings (judging_by P.rules) H finished) printed

-- the bytes of a report are none, and have this fault line
abbrev pub HasFault : List ℕ → List ℕ → List ℕ → ℕ → Type 0
HasFault policy script report line = (P : Policy) × (S : Script) × AreInput policy script P S × IsNotFound P S report line

-- the summary of the history that generated input plays
abbrev pub IsSummary : ℕ → ℕ → List ℕ → Type 0
IsSummary from count printed = GeneratedIsMediated from count × (printed ≡ generated_summary from count)

-- a prefix of it
abbrev pub BeginsSummary : ℕ → ℕ → List ℕ → Type 0
BeginsSummary from count printed = GeneratedIsMediated from count × AddsPrefix [] (generated_summary from count) printed

-- the bound that a number of delays means: 0 to 8, or none where it means all
abbrev pub bound_meant : ℕ → Option (Option ℕ)
bound_meant delays = if delays == 4294967295 then Some None else (if nat_le delays 8 then Some (Some delays) else None)

-- there are such workers, and this is the bound that is meant
abbrev pub IsAsked : ℕ → ℕ → Option ℕ → Type 0
IsAsked workers delays bound = (workers ≤ 15) × (bound_meant delays ≡ Some bound)

-- the form that asks for it
abbrev pub explore_asked : ℕ → Option (Option ℕ) → Option Form
explore_asked workers (Some bound) = if nat_le workers 15 then Some (Explore (codes "policy") (codes "script") workers bound) else None
explore_asked workers None = None

-- these are the policy and the script of the bytes, and so is what is explored of them
pub record AreExplored (policy script : List ℕ) (workers : ℕ) (bound : Option ℕ) (P : Policy) (S : Script) : Type 0 where
  pub policy_is : PolicyReads policy (Ok P)
  pub script_is : ScriptReads script (Ok S)
  pub laws : ExploredLaws workers bound P S

-- what is printed of what the policy and the script of the bytes come to
abbrev pub IsExploration : List ℕ → List ℕ → ℕ → Option ℕ → List ℕ → Type 0
IsExploration policy script workers bound printed =
    (P : Policy) × (S : Script) × AreExplored policy script workers bound P S × IsExploredText workers bound P S printed

-- a prefix of it
abbrev pub BeginsExploration : List ℕ → List ℕ → ℕ → Option ℕ → List ℕ → Type 0
BeginsExploration policy script workers bound printed =
    (P : Policy) × (S : Script) × AreExplored policy script workers bound P S × (text : List ℕ) × IsExploredText workers bound P S text
    × AddsPrefix [] text printed

-- that of the workers and the bound that were asked for
abbrev pub IsAskedExploration : List ℕ → List ℕ → ℕ → ℕ → List ℕ → Type 0
IsAskedExploration policy script workers delays printed =
    (bound : Option ℕ) × IsAsked workers delays bound × IsExploration policy script workers bound printed

-- it is told of what the policy and the script of the bytes play: that its workers mediate, or which event breaks which clause
abbrev pub AreJudged : List ℕ → List ℕ → Told → Type 0
AreJudged policy script told =
    (P : Policy) × (F : ScriptFile) × PolicyReads policy (Ok P) × FileReads script (Ok F)
    × IsToldOf (finding P F.script (judged_history P F)) (judged_history P F) told

-- what is told, with this ending
abbrev pub IsJudgement : List ℕ → List ℕ → Ending → List ℕ → Type 0
IsJudgement policy script ending printed =
    (told : Told) × AreJudged policy script told × (told.ending ≡ ending) × (printed ≡ told.text)

-- a prefix of what is told
abbrev pub BeginsJudgement : List ℕ → List ℕ → List ℕ → Type 0
BeginsJudgement policy script printed = (told : Told) × AreJudged policy script told × AddsPrefix [] told.text printed

-- ---- How it ended

-- why the policy's and the script's bytes weren't both taken: nothing was printed
abbrev pub InputGives : List ℕ → List ℕ → List ℕ → Status → Type 0
InputGives policy script printed (Refused (TooLong PolicyFile)) = (policy_limit < length policy) × (printed ≡ [])
InputGives policy script printed (Refused (BadPolicy error)) = PolicyReads policy (Err error) × (printed ≡ [])
InputGives policy script printed (Refused (TooLong ScriptsFile)) = IsPolicy policy × (script_limit < length script) × (printed ≡ [])
InputGives policy script printed (Refused (BadScript error)) = IsPolicy policy × ScriptReads script (Err error) × (printed ≡ [])
InputGives policy script printed NoMemory = printed ≡ []
InputGives policy script printed _ = ⊥

-- how the play of a policy's and a script's bytes ended, with room for so many bytes of what is printed
abbrev pub PlayGives : Printing → List ℕ → List ℕ → ℕ → List ℕ → Status → Type 0
PlayGives text policy script room printed Done = IsPlay text policy script printed × (length printed ≤ room)
PlayGives text policy script room printed WriteFault = BeginsPlay text policy script printed × (room < length printed)
PlayGives text policy script room printed NoMemory = (printed ≡ []) ⊎ BeginsPlay text policy script printed
PlayGives text policy script room printed status = InputGives policy script printed status

-- workers are replaced after 1 to 200000 steps
abbrev pub IsEvery : ℕ → Type 0
IsEvery every = (1 ≤ every) × (every ≤ 200000)

-- and how it ended where workers were replaced: usage where they can't be after so many steps
abbrev pub HandoverGives : List ℕ → List ℕ → ℕ → ℕ → List ℕ → Status → Type 0
HandoverGives policy script every room printed Usage = ¬ (IsEvery every) × (printed ≡ [])
HandoverGives policy script every room printed NoMemory = PlayGives (with_ledgers every) policy script room printed NoMemory
HandoverGives policy script every room printed (Refused HasRequests) = IsEvery every × GivesTurns policy script × (printed ≡ [])
HandoverGives policy script every room printed status = IsEvery every × PlayGives (with_ledgers every) policy script room printed status

-- how the exploration of a policy's and a script's bytes ended, by workers up to this one and within this bound
abbrev pub ExplorationGives : List ℕ → List ℕ → ℕ → Option ℕ → ℕ → List ℕ → Status → Type 0
ExplorationGives policy script workers bound room printed Done = IsExploration policy script workers bound printed × (length printed ≤ room)
ExplorationGives policy script workers bound room printed WriteFault =
    BeginsExploration policy script workers bound printed × (room < length printed)
ExplorationGives policy script workers bound room printed NoMemory = (printed ≡ []) ⊎ BeginsExploration policy script workers bound printed
ExplorationGives policy script workers bound room printed status = InputGives policy script printed status

-- and by the numbers that were given: usage where there are no such workers, or no such bound
abbrev pub ExploreGives : List ℕ → List ℕ → ℕ → ℕ → ℕ → List ℕ → Status → Type 0
ExploreGives policy script workers delays room printed Usage = ((bound : Option ℕ) → ¬ (IsAsked workers delays bound)) × (printed ≡ [])
ExploreGives policy script workers delays room printed NoMemory =
    (printed ≡ []) ⊎ ((bound : Option ℕ) × IsAsked workers delays bound × BeginsExploration policy script workers bound printed)
ExploreGives policy script workers delays room printed status =
    (bound : Option ℕ) × IsAsked workers delays bound × ExplorationGives policy script workers bound room printed status

-- how the judging of a policy's and a script's bytes ended, with room for so many bytes of what is found
abbrev pub JudgeGives : List ℕ → List ℕ → ℕ → List ℕ → Status → Type 0
JudgeGives policy script room printed Done = IsJudgement policy script Alike printed × (length printed ≤ room)
JudgeGives policy script room printed IsOtherwise = IsJudgement policy script Otherwise printed × (length printed ≤ room)
JudgeGives policy script room printed WriteFault = BeginsJudgement policy script printed × (room < length printed)
JudgeGives policy script room printed NoMemory = (printed ≡ []) ⊎ BeginsJudgement policy script printed
JudgeGives policy script room printed status = InputGives policy script printed status

-- how the check of a report's bytes ended, with room for so many bytes of what is found
abbrev pub CheckGives : List ℕ → List ℕ → List ℕ → ℕ → List ℕ → Status → Type 0
CheckGives policy script report room printed Done = IsFindings policy script report printed × (length printed ≤ room)
CheckGives policy script report room printed WriteFault = BeginsFindings policy script report printed × (room < length printed)
CheckGives policy script report room printed NoMemory = (printed ≡ []) ⊎ BeginsFindings policy script report printed
CheckGives policy script report room printed (NotReport line) = HasFault policy script report line × (printed ≡ [])
CheckGives policy script report room printed (Refused (TooLong ReportFile)) =
    IsInput policy script × (report_limit < length report) × (printed ≡ [])
CheckGives policy script report room printed status = InputGives policy script printed status

-- generated input has 1 to 4000 calls
abbrev pub IsCount : ℕ → Type 0
IsCount count = (1 ≤ count) × (count ≤ 4000)

-- how the play of generated input ended: usage where it can't have so many calls
abbrev pub StressGives : ℕ → ℕ → ℕ → List ℕ → Status → Type 0
StressGives from count room printed Usage = ¬ (IsCount count) × (printed ≡ [])
StressGives from count room printed Done = IsCount count × IsSummary from count printed × (length printed ≤ room)
StressGives from count room printed WriteFault = IsCount count × BeginsSummary from count printed × (room < length printed)
StressGives from count room printed NoMemory = (printed ≡ []) ⊎ BeginsSummary from count printed
StressGives from count room printed _ = ⊥

-- ---- How the end is told

-- the status that is told: a write fault where more was printed than there is room for, and no memory where else a write failed
abbrev pub settled : Bool → Bool → Status → Status
settled true failed status = WriteFault
settled false failed WriteFault = NoMemory
settled false true status = NoMemory
settled false false status = status

-- what was said is the status's line, but where the status was settled, and its line is fixed
abbrev pub Says : Status → List ℕ → Type 0
Says WriteFault said = Unit {0}
Says NoMemory said = Unit {0}
Says status said = said ≡ line_of status
