-- The calls are written, and then the audit: by what is written one text after another.
use Rattle.std.proofs.Common.{rules, ◌≡◌, Err}
use Rattle.hist_model.specs.ReportCalls.{calls}
use Rattle.hist_model.specs.ReportAudit.{audit, judging_by}
use Rattle.audit_log.proofs.Writing.{wrote_more, wrote_stopped}
use Rattle.audit_log.proofs.report.Report.write_listed.Goals as goal

pub returns-in_err-write_calls : goal.returns-in_err-write_calls
returns-in_err-write_calls g c =
    let J = judging_by c.args.self.now.policy.now.rules in
    let K = c.args.self.now.history.now.events in
    let is : c.from_residual.result ≡ Err c.in_err-write_calls.field-0.0 = search rules in
    wrote_stopped _ _ (calls K) (audit J K) _ _ is c.in_err-write_calls.ensures

pub returns : goal.returns
returns g c =
    let J = judging_by c.args.self.now.policy.now.rules in
    let K = c.args.self.now.history.now.events in
    wrote_more _ _ _ (calls K) (audit J K) _ c.in_ok-write_calls.ensures c.write_audit.ensures
