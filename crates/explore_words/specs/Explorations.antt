-- What the answer of an exploration of two files means: what is printed of the explored histories, and why it stopped.
use Rattle.std.specs.Prelude.{◌≡◌, ℕ, ◌+◌, ◌<◌, ◌^◌, ◌++◌, ◌⊎◌, true, All, Contains, List, length, map, Ok, Option, Some, None}
use Rattle.delay_bounded.specs.Explored.{bound_of, explored}
use Rattle.delay_bounded.specs.Laws.{ClosesFinished, IsExplored, IsWalked}
use Rattle.explorer.specs.Printed.{IsPrinted, blocks, counts_line}
use Rattle.explorer.specs.Tallies.{CountedOutcome, outcomes}
use Rattle.explorer.specs.declared.exploring.Exploration.{Exploration}
use Rattle.hist_model.specs.Calls.{count}
use Rattle.hist_model.specs.Legal.{Finished, with_step}
use Rattle.hist_model.specs.ReportAudit.{judging_by}
use Rattle.hist_model.specs.declared.event.Actor.TheVariants.{Listener}
use Rattle.hist_model.specs.declared.event.Event.{Event}
use Rattle.hist_model.specs.declared.policy.Policy.{Policy}
use Rattle.hist_model.specs.declared.script.Script.{Script}
use Rattle.io_edge.specs.Faults.{Rose}
use Rattle.io_edge.specs.FileState.{FileState}
use Rattle.io_edge.specs.SinkState.{SinkState, AddsPrefix}
use Rattle.outcome_text.specs.Outcomes.{result_of}
use Rattle.program_files.specs.Inputs.{PolicyIs, ScriptIs}
use Rattle.program_files.specs.Refusals.{InputRefused, Stands, TookNothing}
use Rattle.program_files.specs.declared.status.Status.{Status}
use Rattle.program_files.specs.declared.status.Status.TheVariants.{Done, WriteFault, NoMemory}

-- ---- What was printed

-- what is printed of what was found by workers up to W, with so many delays at most, or all
abbrev pub exploration_text : ℕ → Option ℕ → Exploration → List ℕ
exploration_text W delays x =
    counts_line W delays x.histories x.events x.longest (length x.outcomes.items) x.whole ++ blocks 1 x.outcomes.items

-- what is printed of what a policy and a script come to, by workers up to W, with so many delays at most, or all
abbrev pub IsExploredText : ℕ → Option ℕ → Policy → Script → List ℕ → Type 0
IsExploredText W delays P S text = IsPrinted P S W delays (explored P S W (bound_of delays)) text

-- the texts of the outcomes of some histories of a script
abbrev pub outcome_texts : Policy → Script → List (List Event) → List (List ℕ)
outcome_texts P S histories = map (λ (o : CountedOutcome). o.text) (outcomes S (judging_by P.rules) histories)

-- ---- What holds of it

-- a legal and finished history in which of the idle workers the lowest receives, without a Skip and by workers up to W,
-- comes to one of the outcomes of the explored histories; it can be counted with the receives that may follow and find nothing
abbrev pub EachHasOutcome : ℕ → Policy → Script → Type 0
EachHasOutcome W P S = (K : List Event) → length K + count K < 2 ^ 64 → IsWalked P S W K → Finished K
    → Contains (outcome_texts P S (explored P S W (bound_of None))) (result_of S (judging_by P.rules) (with_step P S Listener K))

-- so it is without a bound
abbrev pub IsWhole : ℕ → Option ℕ → Policy → Script → Type 0
IsWhole W None P S = EachHasOutcome W P S
IsWhole W (Some d) P S = Unit {0}

-- each explored history is legal and mediated, its schedule plays it, and it was finished before its close;
-- and without a bound each has its outcome
pub record ExploredLaws (W : ℕ) (delays : Option ℕ) (P : Policy) (S : Script) : Type 0 where
  pub each : All (IsExplored P S W) (explored P S W (bound_of delays))
  pub finished : All (λ H. length H < 2 ^ 64 → ClosesFinished H) (explored P S W (bound_of delays))
  pub whole : IsWhole W delays P S

-- these are the policy and the script of the named files, and so is what is explored of them
pub record AreExplored (files : FileState) (policy script : List ℕ) (W : ℕ) (delays : Option ℕ) (P : Policy) (S : Script) : Type 0 where
  pub policy_is : PolicyIs files policy (Ok P)
  pub script_is : ScriptIs files script (Ok S)
  pub laws : ExploredLaws W delays P S

-- the sink took a prefix of what is printed of the two files
abbrev pub TookExploredPrefix : FileState → List ℕ → List ℕ → ℕ → Option ℕ → SinkState → SinkState → Type 0
TookExploredPrefix files policy script W delays old new =
    (P : Policy) × (S : Script) × AreExplored files policy script W delays P S × (text : List ℕ) × IsExploredText W delays P S text
    × (old.tells ≡ true → AddsPrefix old.taken text new.taken)

-- the sink took the whole of it
abbrev pub TookExplored : FileState → List ℕ → List ℕ → ℕ → Option ℕ → SinkState → SinkState → Type 0
TookExplored files policy script W delays old new =
    (P : Policy) × (S : Script) × AreExplored files policy script W delays P S × (text : List ℕ) × IsExploredText W delays P S text
    × (old.tells ≡ true → new.taken ≡ old.taken ++ text)

-- ---- How it ended

-- how the exploration of a policy's and a script's files ended
abbrev pub ExploreEnds : FileState → FileState → SinkState → SinkState → List ℕ → List ℕ → ℕ → Option ℕ → Status → Type 0
ExploreEnds files after old new policy script W delays Done = TookExplored files policy script W delays old new × Stands new
ExploreEnds files after old new policy script W delays WriteFault =
    Rose old.faults new.faults × TookExploredPrefix files policy script W delays old new
ExploreEnds files after old new policy script W delays NoMemory =
    TookNothing old new ⊎ TookExploredPrefix files policy script W delays old new
ExploreEnds files after old new policy script W delays status = InputRefused files after policy script status × TookNothing old new
