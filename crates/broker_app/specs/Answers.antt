-- What the program's answer means: what it read, what it wrote, and why it stopped.
use Rattle.std.specs.Prelude.{◌≡◌, ℕ, ◌≤◌, ◌++◌, true, List, Option, Some, None, ◌⊎◌}
use Rattle.hist_model.specs.Report.{report}
use Rattle.io_edge.specs.Faults.{Rose}
use Rattle.io_edge.specs.FileState.{FileState}
use Rattle.io_edge.specs.SinkState.{SinkState, AddsPrefix}
use Rattle.play_words.specs.Checks.{CheckEnds}
use Rattle.policy_words.specs.Explanations.{ExplainEnds}
use Rattle.explore_words.specs.Explorations.{ExploreEnds}
use Rattle.play_words.specs.Handovers.{HandoverEnds}
use Rattle.play_words.specs.Printings.{PlayEnds}
use Rattle.step_words.specs.Plays.{as_report}
use Rattle.run_words.specs.Pods.{PodEnds}
use Rattle.program_files.specs.Refusals.{Stands, TookNothing}
use Rattle.run_words.specs.Runs.{ByLanes, ByWorkers, RunEnds, by_servers}
use Rattle.step_words.specs.Stepping.{StepEnds}
use Rattle.step_words.specs.Judgements.{JudgeEnds}
use Rattle.policy_words.specs.Tellings.{ClaimsEnds, CompareEnds, LintEnds}
use Rattle.broker_app.specs.Words.{Form, AuditCheck, Check, Compare, Explain, Explore, Handover, Judge, Lanes, Lint, Play, Pod, Run, Step}
use Rattle.broker_app.specs.Words.{Stress}
use Rattle.program_files.specs.declared.status.Status.{Status}
use Rattle.program_files.specs.declared.status.Status.TheVariants.{Usage}
use Rattle.play_words.specs.Generated.{StressEnds}

-- the words have no form
abbrev pub IsUsage : Status → Type 0
IsUsage Usage = Unit {0}
IsUsage _ = ⊥

-- what the answer means, by the form of the words: usage exactly where they have none
abbrev pub Answers : Option Form → FileState → FileState → SinkState → SinkState → Status → Type 0
Answers None files after old new status = IsUsage status × TookNothing old new
Answers (Some (Play policy script)) files after old new status = PlayEnds files after old new policy script as_report status
Answers (Some (Stress from count)) files after old new status = StressEnds from count old new status
Answers (Some (Run policy script workers cpus every)) files after old new status =
    RunEnds files after old new policy script (ByWorkers workers) every status
Answers (Some (Lanes policy script cpus every)) files after old new status =
    RunEnds files after old new policy script ByLanes every status
Answers (Some (AuditCheck policy script report)) files after old new status = CheckEnds files after old new policy script report status
Answers (Some (Handover policy script every)) files after old new status = HandoverEnds files after old new policy script every status
Answers (Some (Pod workers cpus every pairs)) files after old new status =
    PodEnds files after old new (by_servers workers) every pairs status
Answers (Some (Explore policy script workers delays)) files after old new status =
    ExploreEnds files after old new policy script workers delays status
Answers (Some (Step policy script)) files after old new status = StepEnds files after old new policy script status
Answers (Some (Judge policy script)) files after old new status = JudgeEnds files after old new policy script status
Answers (Some (Explain policy calls)) files after old new status = ExplainEnds files after old new policy calls status
Answers (Some (Compare before latter script)) files after old new status = CompareEnds files after old new before latter script status
Answers (Some (Check policy claims)) files after old new status = ClaimsEnds files after old new policy claims status
Answers (Some (Lint policy)) files after old new status = LintEnds files after old new policy status

-- standard error took the whole line, and nothing where it is empty, and it stands if all before it did;
-- or its count of faults rose, and it took a prefix of the line
pub record Said (old : SinkState) (line : List ℕ) (new : SinkState) : Type 0 where
  pub tells : new.tells ≡ old.tells
  pub faults : old.faults ≤ new.faults
  pub whole : Rose old.faults new.faults ⊎ ((old.tells ≡ true → new.taken ≡ old.taken ++ line) × (Stands old → Stands new))
  pub part : old.tells ≡ true → AddsPrefix old.taken line new.taken
