-- The title and the lines are the audit: by `audit_whole`.
use Rattle.std.proofs.Common.{subst}
use Rattle.hist_model.specs.ReportAudit.{judging_by}
use Rattle.audit_log.specs.Written.{Wrote}
use Rattle.audit_log.proofs.Audited.{audit_whole}
use Rattle.audit_log.proofs.report.Report.write_audit.Goals as goal

pub returns : goal.returns
returns g c =
    let r = c.args.self.now in
    subst (λ text. Wrote (g.O.Sink.state c.args.out.now) text c.write_titled.result (g.O.Sink.state c.write_titled.new.out))
    (audit_whole (judging_by r.policy.now.rules) r.tables.now.calls r.history.now.events c.as_slice.result.now r.tables.now.sessions.items
    c.as_slice.ensures.value r.told.calls r.told.sessions)
    c.write_titled.ensures
