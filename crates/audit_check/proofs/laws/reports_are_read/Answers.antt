-- The pass comes to a report's end exactly where the bytes are one: by `finds_reports`.
use Rattle.audit_check.proofs.Reading.{finds_reports}
use Rattle.audit_check.proofs.laws.reports_are_read.Goals as goal

pub returns-clause-reports : goal.returns-clause-reports
returns-clause-reports c = λ P S policy bytes H. finds_reports P S policy bytes H
