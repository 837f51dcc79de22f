-- The report is written, and then how many workers were replaced and their ledgers.
use Rattle.std.proofs.Common.{rules, ◌≡◌, Err}
use Rattle.hist_model.specs.Report.{report}
use Rattle.hist_model.specs.ReportAudit.{judging_by}
use Rattle.handover.specs.Keeping.{all_handed}
use Rattle.audit_log.proofs.Writing.{wrote_more, wrote_stopped}
use Rattle.play_words.specs.Handovers.{handovers}
use Rattle.play_words.proofs.printing.write_handed.Goals as goal

pub returns-in_err-write_report : goal.returns-in_err-write_report
returns-in_err-write_report g c =
    let stopped : c.from_residual.result ≡ Err c.in_err-write_report.field-0.0 = search rules in
    wrote_stopped _ _ (report (judging_by c.args.policy.now.rules) c.args.history.now.events) (handovers (all_handed c.args.handed.now)) _ _ stopped c.in_err-write_report.ensures

pub returns : goal.returns
returns g c =
    wrote_more _ _ _ (report (judging_by c.args.policy.now.rules) c.args.history.now.events) (handovers (all_handed c.args.handed.now)) _ c.in_ok-write_report.ensures c.write_handovers.ensures
