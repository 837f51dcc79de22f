-- What the answer of a run with threads means, with workers or by lanes: which history is printed, and why it stopped.
use Rattle.std.specs.Prelude.{◌≡◌, ℕ, ◌++◌, ◌⊎◌, true, List, Ok, Option, Some, None}
use Rattle.hist_model.specs.ReportAudit.{judging_by}
use Rattle.hist_model.specs.declared.event.Event.{Event}
use Rattle.hist_model.specs.declared.policy.Policy.{Policy}
use Rattle.hist_model.specs.declared.script.Script.{Script}
use Rattle.io_edge.specs.Faults.{Rose}
use Rattle.io_edge.specs.FileState.{FileState}
use Rattle.io_edge.specs.SinkState.{SinkState, AddsPrefix}
use Rattle.lane_seats.specs.Lanes.{Laned}
use Rattle.worker_gate.specs.Endings.{HasEnded}
use Rattle.worker_gate.specs.Replacing.{handed_if}
use Rattle.play_words.specs.Handovers.{report_and}
use Rattle.program_files.specs.Inputs.{PolicyIs, ScriptIs}
use Rattle.program_files.specs.Refusals.{InputRefused, Stands, TookNothing}
use Rattle.program_files.specs.declared.status.Status.{Status}
use Rattle.program_files.specs.declared.status.Status.TheVariants.{Done, WriteFault, NoMemory}

-- ---- The history

-- how the history of a policy's and a script's container ended
abbrev pub Ending : Type 1
Ending = Policy → Script → List Event → Type 0

-- it was served by workers up to this one
abbrev pub ByWorkers : ℕ → Ending
ByWorkers workers P S H = HasEnded P S workers H

-- it was served by lanes: the history is laned, and its workers are 0 to 15
abbrev pub ByLanes : Ending
ByLanes P S H = HasEnded P S 15 H × Laned H

-- by workers up to this one, or by lanes
abbrev pub by_servers : Option ℕ → Ending
by_servers (Some workers) = ByWorkers workers
by_servers None = ByLanes

-- ---- What was printed

-- these are the policy and the script of the named files, and so ended the history of their container
pub record AreRun (files : FileState) (policy script : List ℕ) (Ended : Ending) (P : Policy) (S : Script) (H : List Event) : Type 0 where
  pub policy_is : PolicyIs files policy (Ok P)
  pub script_is : ScriptIs files script (Ok S)
  pub ended : Ended P S H

-- the report of a history, and its ledgers, where workers are replaced after each so many of their steps
abbrev pub run_text : Option ℕ → Policy → List Event → List ℕ
run_text every P H = report_and (judging_by P.rules) H (handed_if every H)

-- the sink took a prefix of what is printed of one such history
abbrev pub TookRunPrefix : FileState → List ℕ → List ℕ → Ending → Option ℕ → SinkState → SinkState → Type 0
TookRunPrefix files policy script Ended every old new =
    (P : Policy) × (S : Script) × (H : List Event) × AreRun files policy script Ended P S H
    × (old.tells ≡ true → AddsPrefix old.taken (run_text every P H) new.taken)

-- the sink took the whole of it
abbrev pub TookRun : FileState → List ℕ → List ℕ → Ending → Option ℕ → SinkState → SinkState → Type 0
TookRun files policy script Ended every old new =
    (P : Policy) × (S : Script) × (H : List Event) × AreRun files policy script Ended P S H
    × (old.tells ≡ true → new.taken ≡ old.taken ++ run_text every P H)

-- ---- How it ended

-- how the run of a policy's and a script's files ended, whose workers were replaced after each so many of their steps, if a number is given
abbrev pub RunEnds : FileState → FileState → SinkState → SinkState → List ℕ → List ℕ → Ending → Option ℕ → Status → Type 0
RunEnds files after old new policy script Ended every Done = TookRun files policy script Ended every old new × Stands new
RunEnds files after old new policy script Ended every WriteFault =
    Rose old.faults new.faults × TookRunPrefix files policy script Ended every old new
RunEnds files after old new policy script Ended every NoMemory =
    TookNothing old new ⊎ TookRunPrefix files policy script Ended every old new
RunEnds files after old new policy script Ended every status = InputRefused files after policy script status × TookNothing old new
