-- What the answer of a report's check means: which history the report tells, what was printed of it, and why it stopped.
use Rattle.std.specs.Prelude.{◌≡◌, ℕ, ◌++◌, ◌↔◌, ◌⊎◌, Bool, true, List, Ok}
use Rattle.audit_check.specs.Checked.{without_close}
use Rattle.audit_check.specs.Reported.{IsFaultLine, IsReported}
use Rattle.hist_model.specs.Legal.{Finished}
use Rattle.hist_model.specs.Mediated.{Mediated}
use Rattle.hist_model.specs.ReportAudit.{judging_by}
use Rattle.hist_model.specs.declared.event.Event.{Event}
use Rattle.hist_model.specs.declared.policy.Policy.{Policy}
use Rattle.hist_model.specs.declared.script.Script.{Script}
use Rattle.io_edge.specs.Faults.{Rose}
use Rattle.io_edge.specs.FileState.{FileState}
use Rattle.io_edge.specs.SinkState.{SinkState, AddsPrefix}
use Rattle.play_words.specs.Findings.{findings}
use Rattle.program_files.specs.Inputs.{PolicyIs, ReportIs, ScriptIs}
use Rattle.program_files.specs.Refusals.{InputRefused, OnlyScript, Stands, TookNothing}
use Rattle.program_files.specs.declared.status.InputFile.TheVariants.{Report as ReportFile}
use Rattle.program_files.specs.declared.status.Refusal.TheVariants.{ReadFault, TooLong}
use Rattle.program_files.specs.declared.status.Status.{Status}
use Rattle.program_files.specs.declared.status.Status.TheVariants.{Done, Refused, WriteFault, NoMemory, NotReport}

-- ---- What was found

-- the bytes are the report of this history, which is mediated, and is finished before its close or not
pub record IsFound (P : Policy) (S : Script) (bytes : List ℕ) (H : List Event) (finished : Bool) : Type 0 where
  pub reported : IsReported P S bytes H
  pub mediated : Mediated P S H
  pub ends : (finished ≡ true) ↔ Finished (without_close H)

-- the bytes are the report of no history, and have this fault line
pub record IsNotFound (P : Policy) (S : Script) (bytes : List ℕ) (line : ℕ) : Type 0 where
  pub first : IsFaultLine P S bytes line
  pub none : (H : List Event) → ¬ (IsReported P S bytes H)

-- the sink took a prefix of what is found of the history that the bytes tell
abbrev pub TookFindingsPrefix : Policy → Script → List ℕ → SinkState → SinkState → Type 0
TookFindingsPrefix P S bytes old new =
    (H : List Event) × (finished : Bool) × IsFound P S bytes H finished
    × (old.tells ≡ true → AddsPrefix old.taken (findings (judging_by P.rules) H finished) new.taken)

-- the sink took all of it
abbrev pub TookFindings : Policy → Script → List ℕ → SinkState → SinkState → Type 0
TookFindings P S bytes old new =
    (H : List Event) × (finished : Bool) × IsFound P S bytes H finished
    × (old.tells ≡ true → new.taken ≡ old.taken ++ findings (judging_by P.rules) H finished)

-- ---- How it ended

-- how the check of a report's bytes ended, under a policy and a script
abbrev pub BytesCheckEnds : Policy → Script → List ℕ → SinkState → SinkState → Status → Type 0
BytesCheckEnds P S bytes old new Done = TookFindings P S bytes old new × Stands new
BytesCheckEnds P S bytes old new WriteFault = Rose old.faults new.faults × TookFindingsPrefix P S bytes old new
BytesCheckEnds P S bytes old new NoMemory = TookNothing old new ⊎ TookFindingsPrefix P S bytes old new
BytesCheckEnds P S bytes old new (NotReport line) = IsNotFound P S bytes line × TookNothing old new
BytesCheckEnds P S bytes old new _ = ⊥

-- these are the policy, the script and the report of the named files
pub record AreChecked (files : FileState) (policy script report : List ℕ) (P : Policy) (S : Script) (bytes : List ℕ) : Type 0 where
  pub policy_is : PolicyIs files policy (Ok P)
  pub script_is : ScriptIs files script (Ok S)
  pub report_is : ReportIs files report bytes

-- how the check of the three files ended, where they were read
abbrev pub ReadCheckEnds : FileState → SinkState → SinkState → List ℕ → List ℕ → List ℕ → Status → Type 0
ReadCheckEnds files old new policy script report status =
    (P : Policy) × (S : Script) × (bytes : List ℕ) × AreChecked files policy script report P S bytes
    × BytesCheckEnds P S bytes old new status

-- how the check of a policy's, a script's and a report's files ended
abbrev pub CheckEnds : FileState → FileState → SinkState → SinkState → List ℕ → List ℕ → List ℕ → Status → Type 0
CheckEnds files after old new policy script report Done = ReadCheckEnds files old new policy script report Done
CheckEnds files after old new policy script report WriteFault = ReadCheckEnds files old new policy script report WriteFault
CheckEnds files after old new policy script report NoMemory =
    TookNothing old new ⊎ ReadCheckEnds files old new policy script report NoMemory
CheckEnds files after old new policy script report (NotReport line) = ReadCheckEnds files old new policy script report (NotReport line)
CheckEnds files after old new policy script report (Refused (ReadFault ReportFile)) =
    OnlyScript files after policy script report (Refused (ReadFault ReportFile)) × TookNothing old new
CheckEnds files after old new policy script report (Refused (TooLong ReportFile)) =
    OnlyScript files after policy script report (Refused (TooLong ReportFile)) × TookNothing old new
CheckEnds files after old new policy script report status = InputRefused files after policy script status × TookNothing old new
