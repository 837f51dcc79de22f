-- What came of serving: what the sink took of the answers to the requests of a file.
use Rattle.std.specs.Prelude.{◌≡◌, ℕ, false, true, List, ◌++◌, MatchOption, IsSomeAnd, Result, Ok, Err}
use Rattle.audit_log.specs.declared.error.ReportError.{ReportError}
use Rattle.audit_log.specs.declared.error.ReportError.TheVariants as report
use Rattle.step_session.specs.declared.origin.Origin.{Origin}
use Rattle.hist_model.specs.declared.script.Script.{Script}
use Rattle.io_edge.specs.Faults.{Rose}
use Rattle.io_edge.specs.FileState.{FileState, SameFiles}
use Rattle.io_edge.specs.SinkState.{SinkState, AddsPrefix}
use Rattle.step_session.specs.Judged.{IsStanding}
use Rattle.step_session.specs.Lines.{all_answers}
use Rattle.step_session.specs.Owing.{Adds, Continues, TookFront, TookOwed}
use Rattle.step_session.specs.declared.fault.StepFault.{StepFault}
use Rattle.step_session.specs.declared.fault.StepFault.TheVariants as step
use Rattle.step_session.specs.declared.serving.Next.{Next}
use Rattle.step_session.specs.declared.serving.Next.TheVariants.{Ended, Read}
use Rattle.step_session.specs.declared.session.Session.{Session}

-- why answers weren't written
abbrev pub fault_of : ReportError → StepFault
fault_of report.WriteFault = step.WriteFault
fault_of report.NoMemory = step.NoMemory

-- ---- a file

-- the sink took the answers to all lines of the file, which is there
abbrev pub TookAll : Origin → Script → FileState → List ℕ → SinkState → SinkState → Type 0
TookAll P S files name old new =
    files.tells ≡ true → IsSomeAnd (files.bytes name) (λ bytes. old.tells ≡ true → new.taken ≡ old.taken ++ all_answers P S bytes)

-- the sink took a prefix of them; nothing where the file isn't there
abbrev pub TookPart : Origin → Script → FileState → List ℕ → SinkState → SinkState → Type 0
TookPart P S files name old new = files.tells ≡ true → old.tells ≡ true
    → MatchOption (files.bytes name) (new.taken ≡ old.taken) (λ bytes. AddsPrefix old.taken (all_answers P S bytes) new.taken)

-- ---- a piece of a file, and what is left of it

-- a fault has its cause
abbrev pub HasCause : StepFault → FileState → FileState → SinkState → SinkState → Type 0
HasCause step.ReadFault files after old new = Rose files.faults after.faults × (files.sound ≡ true → ⊥)
HasCause step.WriteFault files after old new = Rose old.faults new.faults
HasCause step.NoMemory files after old new = Unit {0}

-- what the reading of a piece came to: the session goes on with what is left of the file, or all was said, or a front of it
abbrev pub PieceCame : Origin → Session → FileState → SinkState → Result Next StepFault → Session → FileState → SinkState → Type 0
PieceCame P s files old (Ok Read) t after new =
    IsStanding P t.container × (files.tells ≡ true → Continues P s old files.left t new after.left)
PieceCame P s files old (Ok Ended) t after new = (new.pending ≡ false) × (files.tells ≡ true → TookOwed P s files.left old new)
PieceCame P s files old (Err fault) t after new =
    HasCause fault files after old new × (files.tells ≡ true → TookFront P s files.left old new)

-- A piece was read and answered, or there was none, or it failed.
pub record PieceEnds (P : Origin) (s : Session) (files : FileState) (old : SinkState) (result : Result Next StepFault)
    (t : Session) (after : FileState) (new : SinkState) : Type 0 where
  pub same : SameFiles files after
  pub current : after.current ≡ files.current
  pub adds : Adds old new
  pub came : PieceCame P s files old result t after new

-- what the answering of all that is left came to
abbrev pub RestCame : Origin → Session → FileState → SinkState → Result (Unit {0}) StepFault → FileState → SinkState → Type 0
RestCame P s files old (Ok u) after new = (new.pending ≡ false) × (files.tells ≡ true → TookOwed P s files.left old new)
RestCame P s files old (Err fault) after new = HasCause fault files after old new × (files.tells ≡ true → TookFront P s files.left old new)

-- All that is left was answered, or it failed.
pub record RestEnds (P : Origin) (s : Session) (files : FileState) (old : SinkState) (result : Result (Unit {0}) StepFault)
    (after : FileState) (new : SinkState) : Type 0 where
  pub same : SameFiles files after
  pub adds : Adds old new
  pub came : RestCame P s files old result after new
