-- The calls and the audit are written, and then the summary: by what is written one text after another.
use Rattle.std.proofs.Common.{rules, ◌≡◌, ◌++◌, Err}
use Rattle.hist_model.specs.ReportCalls.{calls}
use Rattle.hist_model.specs.ReportAudit.{audit, judging_by}
use Rattle.hist_model.specs.Report.{summary}
use Rattle.audit_log.proofs.Writing.{wrote_more, wrote_stopped}
use Rattle.audit_log.proofs.report.Report.write_rest.Goals as goal

pub returns-in_err-write_listed-clause-wrote : goal.returns-in_err-write_listed-clause-wrote
returns-in_err-write_listed-clause-wrote g c =
    let J = judging_by c.args.self.now.policy.now.rules in
    let K = c.args.self.now.history.now.events in
    let is : c.from_residual.result ≡ Err c.in_err-write_listed.field-0.0 = search rules in
    wrote_stopped _ _ (calls K ++ audit J K) (summary J K) _ _ is c.in_err-write_listed.ensures

pub returns-clause-wrote : goal.returns-clause-wrote
returns-clause-wrote g c =
    let J = judging_by c.args.self.now.policy.now.rules in
    let K = c.args.self.now.history.now.events in
    wrote_more _ _ _ (calls K ++ audit J K) (summary J K) _ c.in_ok-write_listed.ensures c.write_summary.ensures.wrote
