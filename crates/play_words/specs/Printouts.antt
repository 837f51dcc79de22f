-- What is printed of a history.
use Rattle.std.specs.Prelude.{ℕ, ◌++◌, List}
use Rattle.audit_log.specs.Tables.{TellsTables}
use Rattle.handover.specs.Keeping.{all_handed}
use Rattle.hist_model.specs.Legal.{played}
use Rattle.hist_model.specs.Report.{report, summary}
use Rattle.hist_model.specs.ReportAudit.{Judging, judging_by}
use Rattle.hist_model.specs.declared.event.Event.{Event}
use Rattle.hist_model.specs.declared.policy.Policy.{Policy}
use Rattle.hist_model.specs.declared.policy.Rule.{Rule}
use Rattle.hist_model.specs.declared.script.Script.{Script}
use Rattle.play_words.specs.Findings.{findings}
use Rattle.play_words.specs.Handovers.{handovers}
use Rattle.play_words.specs.declared.printing.Printout.{Printout}
use Rattle.play_words.specs.declared.printing.Printout.TheVariants.{Report, Handovers, Summary, Findings}

-- ---- What was printed

-- the whole report of a history, that report and the ledgers from which workers were replaced, its summary alone,
-- or what is found of it where a report tells it
abbrev pub text_of : Printout → Judging → List Event → List ℕ
text_of Report J H = report J H
text_of (Handovers handed) J H = report J H ++ handovers (all_handed handed.now)
text_of Summary J H = summary J H
text_of (Findings finished tables) J H = findings J H finished

-- the tables by which it is printed, if it has some, tell of the history under these rules
abbrev pub IsPrintable : Printout → List Rule → List Event → Type 0
IsPrintable (Findings finished tables) rules H = TellsTables rules H tables.now
IsPrintable _ rules H = Unit {0}

-- that of the history that a policy and a script play
abbrev pub printout_of : Printout → Policy → Script → List ℕ
printout_of printout P S = text_of printout (judging_by P.rules) (played P S)
