-- What the answer of a play of generated input means.
use Rattle.std.specs.Prelude.{◌≡◌, ℕ, ◌++◌, true, List}
use Rattle.hist_model.specs.Legal.{played}
use Rattle.hist_model.specs.Mediated.{Mediated}
use Rattle.io_edge.specs.Faults.{Rose}
use Rattle.io_edge.specs.SinkState.{SinkState, AddsPrefix}
use Rattle.generated_input.specs.GeneratedPolicy.{generated_policy}
use Rattle.generated_input.specs.GeneratedScript.{generated_script}
use Rattle.program_files.specs.Refusals.{Stands}
use Rattle.play_words.specs.declared.printing.Printout.TheVariants.{Summary}
use Rattle.program_files.specs.declared.status.Status.{Status}
use Rattle.program_files.specs.declared.status.Status.TheVariants.{Done, WriteFault, NoMemory}
use Rattle.play_words.specs.Printouts.{printout_of}

-- ---- Generated input

-- the summary of the history that generated input plays
abbrev pub generated_summary : ℕ → ℕ → List ℕ
generated_summary from count = printout_of Summary generated_policy (generated_script from count)

-- that history is mediated
abbrev pub GeneratedIsMediated : ℕ → ℕ → Type 0
GeneratedIsMediated from count =
    Mediated generated_policy (generated_script from count) (played generated_policy (generated_script from count))

-- the sink took a prefix of the summary of a mediated history
abbrev pub TookSummaryPrefix : ℕ → ℕ → SinkState → SinkState → Type 0
TookSummaryPrefix from count old new =
    GeneratedIsMediated from count × (old.tells ≡ true → AddsPrefix old.taken (generated_summary from count) new.taken)

-- the sink took the whole summary of a mediated history
abbrev pub TookSummary : ℕ → ℕ → SinkState → SinkState → Type 0
TookSummary from count old new = GeneratedIsMediated from count × (old.tells ≡ true → new.taken ≡ old.taken ++ generated_summary from count)

-- ---- How it ended

-- how the play of generated input ended
abbrev pub StressEnds : ℕ → ℕ → SinkState → SinkState → Status → Type 0
StressEnds from count old new Done = TookSummary from count old new × Stands new
StressEnds from count old new WriteFault = Rose old.faults new.faults × TookSummaryPrefix from count old new
StressEnds from count old new NoMemory = TookSummaryPrefix from count old new
StressEnds from count old new _ = ⊥
