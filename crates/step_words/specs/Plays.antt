-- What a policy and a script's file play, by the script's own schedule or by lines with requests, and what holds of it.
use Rattle.std.specs.Prelude.{ℕ, List, [], ◌∷◌}
use Rattle.hist_model.specs.Legal.{played}
use Rattle.hist_model.specs.Mediated.{Mediated}
use Rattle.hist_model.specs.Report.{report}
use Rattle.hist_model.specs.ReportAudit.{judging_by}
use Rattle.hist_model.specs.declared.event.Event.{Event}
use Rattle.hist_model.specs.declared.policy.Policy.{Policy}
use Rattle.hist_model.specs.declared.script.Script.{Script}
use Rattle.script_reader.specs.declared.file.ScriptFile.{ScriptFile}
use Rattle.step_requests.specs.declared.request.Turn.{Turn}
use Rattle.asked_steps.specs.Steps.{IsBegun}
use Rattle.turn_player.specs.Turns.{turned}
use Rattle.play_words.specs.Printings.{Printing}

-- ---- What is played

-- the history that a policy and a script play by the script's own schedule, or by its lines where a worker of another broker has requests
abbrev pub played_by : Policy → Script → List Turn → List Event
played_by P S [] = played P S
played_by P S (t ∷ turns) = turned P S (t ∷ turns)

-- and what holds of it: it is mediated, or whatever such workers ask for, it is one of the kernel
abbrev pub IsLawfullyPlayed : Policy → Script → List Turn → Type 0
IsLawfullyPlayed P S [] = Mediated P S (played P S)
IsLawfullyPlayed P S (t ∷ turns) = IsBegun S (turned P S (t ∷ turns))

-- the report of the history that they play
abbrev pub report_of : Policy → ScriptFile → List ℕ
report_of P F = report (judging_by P.rules) (played_by P F.script F.turns)

abbrev pub as_report : Printing
as_report = record { text = report_of; Holds = λ P F. IsLawfullyPlayed P F.script F.turns }
