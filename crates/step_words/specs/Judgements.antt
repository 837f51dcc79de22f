-- What the answer of `judge` means: what is told of the workers of a script's schedule, and why it stopped.
use Rattle.std.specs.Prelude.{◌≡◌, ℕ, ◌++◌, List, [], ◌∷◌, map, Option, Some, None, Ok}
use Rattle.hist_model.specs.declared.event.Event.{Event}
use Rattle.hist_model.specs.declared.policy.Policy.{Policy}
use Rattle.hist_model.specs.declared.script.Script.{Script}
use Rattle.io_edge.specs.FileState.{FileState}
use Rattle.io_edge.specs.SinkState.{SinkState}
use Rattle.judge_pass.specs.Finding.{Finding, finding}
use Rattle.judge_pass.specs.Heads.{broken_text, mediated_text}
use Rattle.policy_classes.specs.declared.ending.Ending.TheVariants.{Alike, Otherwise}
use Rattle.policy_classes.specs.declared.ending.Told.{Told}
use Rattle.script_reader.specs.declared.file.ScriptFile.{ScriptFile}
use Rattle.step_requests.specs.declared.request.Turn.{Turn}
use Rattle.turn_player.specs.Turns.{turn_of, turned}
use Rattle.program_files.specs.Inputs.{PolicyIs, ScriptFileIs}
use Rattle.program_files.specs.Refusals.{InputRefused}
use Rattle.policy_words.specs.Tellings.{TellingEnds}
use Rattle.program_files.specs.declared.status.Status.{Status}
use Rattle.program_files.specs.declared.status.Status.TheVariants.{Refused}

-- the lines that are played: those of a schedule with requests, or the steps of one without
abbrev pub lines_by : List Turn → Script → List Turn
lines_by [] S = map turn_of S.schedule
lines_by (t ∷ turns) S = t ∷ turns

-- the history that a policy and a script's file play
abbrev pub judged_history : Policy → ScriptFile → List Event
judged_history P F = turned P F.script (lines_by F.turns F.script)

-- it is told of a history in which this is found: that nothing is, or which event breaks which clause, and behind that line the reasons
abbrev pub IsToldOf : Option Finding → List Event → Told → Type 0
IsToldOf None K told = (told.text ≡ mediated_text K) × (told.ending ≡ Alike)
IsToldOf (Some f) K told =
    ((reasons : List ℕ) × (told.text ≡ broken_text f.place f.class f.clause ++ reasons)) × (told.ending ≡ Otherwise)

-- it is told of what the policy and the script of two files play
abbrev pub TellsOfBroker : FileState → List ℕ → List ℕ → Told → Type 0
TellsOfBroker files policy script told =
    (P : Policy) × (F : ScriptFile) × PolicyIs files policy (Ok P) × ScriptFileIs files script (Ok F)
    × IsToldOf (finding P F.script (judged_history P F)) (judged_history P F) told

-- how the judging ended
abbrev pub JudgeEnds : FileState → FileState → SinkState → SinkState → List ℕ → List ℕ → Status → Type 0
JudgeEnds files after old new policy script status =
    TellingEnds (TellsOfBroker files policy script) (λ refusal. InputRefused files after policy script (Refused refusal)) old new status
