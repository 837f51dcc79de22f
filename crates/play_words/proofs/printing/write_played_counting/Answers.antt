-- The report is written, and then the ledgers, where there are some.
use Rattle.std.proofs.Common.{rules, ◌≡◌, List, Err, subst}
use Rattle.hist_model.specs.Report.{report}
use Rattle.hist_model.specs.ReportAudit.{judging_by}
use Rattle.audit_log.proofs.Writing.{wrote_more}
use Rattle.audit_log.specs.Written.{Wrote}
use Rattle.handover.specs.Keeping.{all_handed}
use Rattle.handover.specs.declared.ledgers.Handover.{Handover}
use Rattle.worker_gate.specs.Replacing.{handed_in}
use Rattle.play_words.proofs.Handovers.{report_stopped}
use Rattle.play_words.specs.Handovers.{handovers}
use Rattle.play_words.proofs.printing.write_played_counting.Goals as goal

pub returns-in_err-write_report_counting-clause-wrote : goal.returns-in_err-write_report_counting-clause-wrote
returns-in_err-write_report_counting-clause-wrote g c =
    let p = c.args.played.now in
    let stopped : c.from_residual.result ≡ Err c.in_err-write_report_counting.field-0.0 = search rules in
    rw stopped (report_stopped _ _ (judging_by p.policy.rules) p.history.events (handed_in p.handed) c.in_err-write_report_counting.field-0.0 c.in_err-write_report_counting.ensures.wrote)

pub returns-in-Some-clause-wrote : goal.returns-in-Some-clause-wrote
returns-in-Some-clause-wrote g c =
    let p = c.args.played.now in
    let kept = c.in-Some.handed.items in
    rw c.in-Some.is
    (wrote_more _ _ _ (report (judging_by p.policy.rules) p.history.events) (handovers (all_handed kept)) _ c.in_ok-write_report_counting.ensures.wrote
    (subst (λ (hs : List Handover). Wrote (g.O.Sink.state c.write_report_counting.new.out) (handovers (all_handed hs)) c.write_handovers.result (g.O.Sink.state c.write_handovers.new.out)) c.as_slice.ensures.value c.write_handovers.ensures))
