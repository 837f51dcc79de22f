-- What is printed of a play whose workers were replaced, and how it ended.
use Rattle.std.specs.Prelude.{◌≡◌, ℕ, ◌<◌, ◌++◌, List, [], length, Ok, Option, Some, None, IfSome, codes, decimal}
use Rattle.std.specs.List.{flat_map}
use Rattle.hist_model.specs.Legal.{played}
use Rattle.hist_model.specs.Mediated.{Mediated}
use Rattle.hist_model.specs.Report.{report}
use Rattle.hist_model.specs.ReportAudit.{Judging, judging_by}
use Rattle.hist_model.specs.declared.event.Event.{Event}
use Rattle.hist_model.specs.declared.policy.Policy.{Policy}
use Rattle.hist_model.specs.declared.script.Script.{Script}
use Rattle.handover.specs.Handing.{Handed, handed}
use Rattle.io_edge.specs.FileState.{FileState}
use Rattle.io_edge.specs.SinkState.{SinkState}
use Rattle.script_reader.specs.declared.file.ScriptFile.{ScriptFile}
use Rattle.program_files.specs.Inputs.{PolicyIs, ScriptFileIs}
use Rattle.play_words.specs.Printings.{PlayEnds, Printing}
use Rattle.program_files.specs.Refusals.{TookNothing}
use Rattle.program_files.specs.declared.status.Refusal.TheVariants.{HasRequests}
use Rattle.program_files.specs.declared.status.Status.{Status}
use Rattle.program_files.specs.declared.status.Status.TheVariants.{Refused}

-- the line of a ledger from which a worker was replaced
abbrev pub ledger_line : Handed → List ℕ
ledger_line h = codes "ledger " ++ (decimal h.place ++ (codes " w" ++ (decimal h.worker ++ (codes " " ++ (h.text ++ codes "\n")))))

-- how many there were
abbrev pub handovers_title : ℕ → List ℕ
handovers_title n = codes "handovers " ++ (decimal n ++ codes "\n")

-- and the lines of all
abbrev pub handovers : List Handed → List ℕ
handovers all = handovers_title (length all) ++ flat_map ledger_line all

-- the report of a history, and after it the ledgers from which workers were replaced in it, where they were to be
abbrev pub report_and : Judging → List Event → Option (List Handed) → List ℕ
report_and J H None = report J H
report_and J H (Some all) = report J H ++ handovers all

-- the report of the history that a policy and a script play, and the ledgers from which workers are replaced
-- in it after each so many of their steps
abbrev pub handover_report : ℕ → Policy → Script → List ℕ
handover_report every P S = report (judging_by P.rules) (played P S) ++ handovers (handed every (played P S))

-- ---- How it ended

-- what a script's own schedule plays is mediated; there are no lines of another broker's workers, which nobody can replace
pub record IsHandedOver (P : Policy) (F : ScriptFile) : Type 0 where
  pub turns : F.turns ≡ []
  pub mediated : Mediated P F.script (played P F.script)

abbrev pub with_ledgers : ℕ → Printing
with_ledgers every = record { text = λ P F. handover_report every P F.script; Holds = IsHandedOver }

-- the files were read, and the script has such lines
abbrev pub HasTurns : FileState → List ℕ → List ℕ → Type 0
HasTurns files policy script =
    (P : Policy) × (F : ScriptFile) × PolicyIs files policy (Ok P) × ScriptFileIs files script (Ok F) × (F.turns ≡ [] → ⊥)

-- how a play ended whose workers are replaced after each so many of their steps
abbrev pub HandoverEnds : FileState → FileState → SinkState → SinkState → List ℕ → List ℕ → ℕ → Status → Type 0
HandoverEnds files after old new policy script every (Refused HasRequests) = HasTurns files policy script × TookNothing old new
HandoverEnds files after old new policy script every status = PlayEnds files after old new policy script (with_ledgers every) status

-- ---- Which are asked for

-- where workers are replaced, one is after one step at the earliest
abbrev pub IsAfterSteps : Option ℕ → Type 0
IsAfterSteps every = IfSome every (λ n. 0 < n)
