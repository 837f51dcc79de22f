-- What the answer of `step` means: what is answered to the requests on the standard input, and why it stopped.
use Rattle.std.specs.Prelude.{◌≡◌, ℕ, true, IsSomeAnd, List, None, Ok, ◌⊎◌, codes}
use Rattle.hist_model.specs.Legal.{started}
use Rattle.step_session.specs.Scripts.{before_schedule}
use Rattle.step_session.specs.declared.origin.Origin.{Origin}
use Rattle.hist_model.specs.declared.script.Script.{Script}
use Rattle.io_edge.specs.Faults.{Rose}
use Rattle.io_edge.specs.FileState.{FileState}
use Rattle.io_edge.specs.SinkState.{SinkState}
use Rattle.asked_steps.specs.Steps.{IsBegun}
use Rattle.step_session.specs.Lines.{history_after}
use Rattle.step_session.specs.Serving.{TookAll, TookPart}
use Rattle.program_files.specs.Inputs.{PolicyIs, ScriptIs}
use Rattle.program_files.specs.Refusals.{InputRefused, Stands, TookNothing}
use Rattle.program_files.specs.declared.status.InputFile.TheVariants.{Requests as RequestsFile}
use Rattle.program_files.specs.declared.status.Refusal.TheVariants.{ReadFault}
use Rattle.program_files.specs.declared.status.Status.{Status}
use Rattle.program_files.specs.declared.status.Status.TheVariants.{Done, NoMemory, Refused, WriteFault}

-- the file of the requests: the standard input (proc_pid_fd(5))
abbrev pub requests_name : List ℕ
requests_name = codes "/dev/stdin"

-- these are the policy and the script of the named files, and whatever is asked, the history is one of the kernel
pub record AreStepped (files : FileState) (policy script : List ℕ) (origin : Origin) (S : Script) : Type 0 where
  pub policy_is : PolicyIs files policy (Ok origin.policy)
  pub script_is : ScriptIs files script (Ok S)
  pub front_is : files.tells ≡ true → IsSomeAnd (files.bytes script) (λ bytes. origin.front ≡ before_schedule bytes)
  pub kernel : (lines : List (List ℕ)) → IsBegun S (history_after origin S (started S) lines)

-- the sink took the answers to all requests
abbrev pub TookAnswers : FileState → List ℕ → List ℕ → SinkState → SinkState → Type 0
TookAnswers files policy script old new =
    (origin : Origin) × (S : Script) × AreStepped files policy script origin S × TookAll origin S files requests_name old new

-- the sink took a prefix of them
abbrev pub TookAnswersPrefix : FileState → List ℕ → List ℕ → SinkState → SinkState → Type 0
TookAnswersPrefix files policy script old new =
    (origin : Origin) × (S : Script) × AreStepped files policy script origin S × TookPart origin S files requests_name old new

-- the requests couldn't be read: over a sound source, only where there are none
abbrev pub RequestsFail : FileState → FileState → Type 0
RequestsFail files after = Rose files.faults after.faults × (files.sound ≡ true → files.bytes requests_name ≡ None)

-- how the stepping of a policy's and a script's files ended
abbrev pub StepEnds : FileState → FileState → SinkState → SinkState → List ℕ → List ℕ → Status → Type 0
StepEnds files after old new policy script Done = TookAnswers files policy script old new × Stands new
StepEnds files after old new policy script WriteFault = Rose old.faults new.faults × TookAnswersPrefix files policy script old new
StepEnds files after old new policy script NoMemory = TookNothing old new ⊎ TookAnswersPrefix files policy script old new
StepEnds files after old new policy script (Refused (ReadFault RequestsFile)) =
    RequestsFail files after × TookAnswersPrefix files policy script old new
StepEnds files after old new policy script status = InputRefused files after policy script status × TookNothing old new
