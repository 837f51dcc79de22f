-- What the answer of a play of two files means: what is printed of what they play, and why it stopped.
use Rattle.std.specs.Prelude.{◌≡◌, ℕ, ◌++◌, ◌⊎◌, true, List, Ok}
use Rattle.hist_model.specs.declared.policy.Policy.{Policy}
use Rattle.io_edge.specs.Faults.{Rose}
use Rattle.io_edge.specs.FileState.{FileState}
use Rattle.io_edge.specs.SinkState.{SinkState, AddsPrefix}
use Rattle.script_reader.specs.declared.file.ScriptFile.{ScriptFile}
use Rattle.program_files.specs.Inputs.{PolicyIs, ScriptFileIs}
use Rattle.program_files.specs.Refusals.{InputRefused, Stands, TookNothing}
use Rattle.program_files.specs.declared.status.Status.{Status}
use Rattle.program_files.specs.declared.status.Status.TheVariants.{Done, WriteFault, NoMemory}

-- ---- What was printed

-- what is printed of what a policy and a script's file play, and what holds of that
pub record Printing : Type 1 where
  pub text : Policy → ScriptFile → List ℕ
  pub Holds : Policy → ScriptFile → Type 0

-- these are the policy and the script of the named files, and what is printed of them holds
pub record AreRead (files : FileState) (policy script : List ℕ) (printing : Printing) (P : Policy) (F : ScriptFile) : Type 0 where
  pub policy_is : PolicyIs files policy (Ok P)
  pub file_is : ScriptFileIs files script (Ok F)
  pub holds : printing.Holds P F

-- the sink took a prefix of what is printed of what the two files play
abbrev pub TookPlayPrefix : FileState → List ℕ → List ℕ → Printing → SinkState → SinkState → Type 0
TookPlayPrefix files policy script printing old new =
    (P : Policy) × (F : ScriptFile) × AreRead files policy script printing P F
    × (old.tells ≡ true → AddsPrefix old.taken (printing.text P F) new.taken)

-- the sink took the whole of it
abbrev pub TookPlay : FileState → List ℕ → List ℕ → Printing → SinkState → SinkState → Type 0
TookPlay files policy script printing old new =
    (P : Policy) × (F : ScriptFile) × AreRead files policy script printing P F
    × (old.tells ≡ true → new.taken ≡ old.taken ++ printing.text P F)

-- ---- How it ended

-- how the play of a policy's and a script's files ended
abbrev pub PlayEnds : FileState → FileState → SinkState → SinkState → List ℕ → List ℕ → Printing → Status → Type 0
PlayEnds files after old new policy script printing Done = TookPlay files policy script printing old new × Stands new
PlayEnds files after old new policy script printing WriteFault =
    Rose old.faults new.faults × TookPlayPrefix files policy script printing old new
PlayEnds files after old new policy script printing NoMemory =
    TookNothing old new ⊎ TookPlayPrefix files policy script printing old new
PlayEnds files after old new policy script printing status = InputRefused files after policy script status × TookNothing old new
