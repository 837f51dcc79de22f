-- What a report has behind its journal.
use Rattle.std.specs.Prelude.{ℕ, List, ◌++◌}
use Rattle.hist_model.specs.Report.{summary}
use Rattle.hist_model.specs.ReportAudit.{Judging, audit}
use Rattle.hist_model.specs.ReportCalls.{calls}
use Rattle.hist_model.specs.declared.event.Event.{Event}

abbrev pub rest : Judging → List Event → List ℕ
rest J H = calls H ++ audit J H ++ summary J H
