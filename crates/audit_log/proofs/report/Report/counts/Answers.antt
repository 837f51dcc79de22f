-- The counts are those of the history's events and of what came of its sessions.
use Rattle.std.proofs.Common.{ap, ◌∙◌}
use Rattle.audit_log.specs.Counts.{counted}
use Rattle.audit_log.proofs.report.Report.counts.Goals as goal

pub returns : goal.returns
returns c = c.counted.ensures ∙ ap (counted c.args.self.now.history.now.events) (c.as_slice.ensures.value ∙ c.in_ok-found.ensures)
