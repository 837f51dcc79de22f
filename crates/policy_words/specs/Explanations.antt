-- What the answer of an explanation means: what is told of the calls of a file, and why it stopped.
use Rattle.std.specs.Prelude.{◌≡◌, ℕ, ◌++◌, ◌⊎◌, true, List, Ok, Err}
use Rattle.hist_model.specs.declared.policy.Policy.{Policy}
use Rattle.io_edge.specs.Faults.{Rose}
use Rattle.io_edge.specs.FileState.{FileState}
use Rattle.io_edge.specs.SinkState.{SinkState, AddsPrefix}
use Rattle.policy_explain.specs.Blocks.{explanation}
use Rattle.program_files.specs.Inputs.{CallsAre, PolicyIs}
use Rattle.program_files.specs.Refusals.{OnlyPolicyOfCalls, PolicyRefused, Stands, TookNothing}
use Rattle.program_files.specs.declared.status.InputFile.TheVariants.{Calls as CallsFile}
use Rattle.program_files.specs.declared.status.Refusal.TheVariants.{BadCalls, ReadFault, TooLong}
use Rattle.program_files.specs.declared.status.Status.{Status}
use Rattle.program_files.specs.declared.status.Status.TheVariants.{Done, NoMemory, Refused, WriteFault}

-- the sink took a prefix of what is told of the calls that the bytes state
abbrev pub TookExplainedPrefix : Policy → List ℕ → SinkState → SinkState → Type 0
TookExplainedPrefix P bytes old new =
    (text : List ℕ) × (explanation P.rules bytes ≡ Ok text) × (old.tells ≡ true → AddsPrefix old.taken text new.taken)

-- the sink took all of it
abbrev pub TookExplained : Policy → List ℕ → SinkState → SinkState → Type 0
TookExplained P bytes old new =
    (text : List ℕ) × (explanation P.rules bytes ≡ Ok text) × (old.tells ≡ true → new.taken ≡ old.taken ++ text)

-- how the explanation of the calls that bytes state ended, under a policy
abbrev pub BytesExplainEnds : Policy → List ℕ → SinkState → SinkState → Status → Type 0
BytesExplainEnds P bytes old new Done = TookExplained P bytes old new × Stands new
BytesExplainEnds P bytes old new WriteFault = Rose old.faults new.faults × TookExplainedPrefix P bytes old new
BytesExplainEnds P bytes old new NoMemory = TookNothing old new ⊎ TookExplainedPrefix P bytes old new
BytesExplainEnds P bytes old new (Refused (BadCalls error)) = (explanation P.rules bytes ≡ Err error) × TookNothing old new
BytesExplainEnds P bytes old new _ = ⊥

-- these are the policy and the calls of the named files
pub record AreExplained (files : FileState) (policy calls : List ℕ) (P : Policy) (bytes : List ℕ) : Type 0 where
  pub policy_is : PolicyIs files policy (Ok P)
  pub calls_are : CallsAre files calls bytes

-- how the explanation ended, where both were read
abbrev pub ReadExplainEnds : FileState → SinkState → SinkState → List ℕ → List ℕ → Status → Type 0
ReadExplainEnds files old new policy calls status =
    (P : Policy) × (bytes : List ℕ) × AreExplained files policy calls P bytes × BytesExplainEnds P bytes old new status

-- how the explanation of the calls of one file under the policy of another ended
abbrev pub ExplainEnds : FileState → FileState → SinkState → SinkState → List ℕ → List ℕ → Status → Type 0
ExplainEnds files after old new policy calls Done = ReadExplainEnds files old new policy calls Done
ExplainEnds files after old new policy calls WriteFault = ReadExplainEnds files old new policy calls WriteFault
ExplainEnds files after old new policy calls NoMemory = TookNothing old new ⊎ ReadExplainEnds files old new policy calls NoMemory
ExplainEnds files after old new policy calls (Refused (BadCalls error)) =
    ReadExplainEnds files old new policy calls (Refused (BadCalls error))
ExplainEnds files after old new policy calls (Refused (ReadFault CallsFile)) =
    OnlyPolicyOfCalls files after policy calls (Refused (ReadFault CallsFile)) × TookNothing old new
ExplainEnds files after old new policy calls (Refused (TooLong CallsFile)) =
    OnlyPolicyOfCalls files after policy calls (Refused (TooLong CallsFile)) × TookNothing old new
ExplainEnds files after old new policy calls status = PolicyRefused files after policy status × TookNothing old new
