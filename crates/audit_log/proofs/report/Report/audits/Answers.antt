-- What is kept of the sessions tells what came of each: by `audits_told`.
use Rattle.std.proofs.Common.{◌≡◌, map, ap, subst, ◌∙◌}
use Rattle.std.specs.Prelude.{IfOk}
use Rattle.hist_model.specs.ReportAudit.{judging_by}
use Rattle.audit_log.specs.declared.session.SessionRecord.{SessionRecord}
use Rattle.audit_log.specs.Audited.{audited}
use Rattle.audit_log.specs.CallTable.{number_in}
use Rattle.audit_log.proofs.Audited.{audits_told}
use Rattle.audit_log.proofs.report.Report.audits.Goals as goal

pub returns : goal.returns
returns c =
    let r = c.args.self.now in
    subst (λ xs. IfOk c.audits_of.result (λ found. found.items ≡ xs))
    (ap (map (λ (s : SessionRecord). audited (number_in r.tables.now.calls s.place) s)) c.as_slice.ensures.value
    ∙ audits_told (judging_by r.policy.now.rules) r.tables.now.calls r.history.now.events r.tables.now.sessions.items r.told.calls r.told.sessions)
    c.audits_of.ensures
