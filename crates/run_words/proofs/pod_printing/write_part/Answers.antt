-- The title is written, and then the report and the ledgers; the counts are added after all.
use Rattle.std.proofs.Common.{rules, ◌≡◌, Ok, Err, subst}
use Rattle.audit_log.proofs.Writing.{wrote_more, wrote_stopped}
use Rattle.audit_log.specs.Written.{Wrote}
use Rattle.audit_log.specs.declared.error.ReportError.TheVariants.{NoMemory}
use Rattle.hist_model.specs.ReportAudit.{judging_by}
use Rattle.run_words.proofs.PodTexts.{written_then_stopped}
use Rattle.play_words.specs.Handovers.{report_and}
use Rattle.run_words.specs.PodText.{container_title, kept_in, part}
use Rattle.run_words.proofs.pod_printing.write_part.Goals as goal

pub returns-in_err-write_line-clause-wrote : goal.returns-in_err-write_line-clause-wrote
returns-in_err-write_line-clause-wrote g c =
    let text = report_and (judging_by c.args.ended.now.policy.rules) c.args.ended.now.history.events (kept_in c.args.ended.now) in
    let stopped : c.from_residual-in_err-write_line.result ≡ Err c.in_err-write_line.field-0.0 = search rules in
    wrote_stopped _ _ (container_title c.args.number) text _ _ stopped
    (subst (λ title. Wrote (g.O.Sink.state c.args.out.now) title (Err c.in_err-write_line.field-0.0) (g.O.Sink.state c.write_line.new.out)) c.in_ok-title.ensures c.in_err-write_line.ensures)

pub returns-in_err-write_played_counting-clause-wrote : goal.returns-in_err-write_played_counting-clause-wrote
returns-in_err-write_played_counting-clause-wrote g c =
    let text = report_and (judging_by c.args.ended.now.policy.rules) c.args.ended.now.history.events (kept_in c.args.ended.now) in
    let stopped : c.from_residual-in_err-write_played_counting.result ≡ Err c.in_err-write_played_counting.field-0.0 = search rules in
    rw stopped
    (wrote_more _ _ _ (container_title c.args.number) text (Err c.in_err-write_played_counting.field-0.0)
    (subst (λ title. Wrote (g.O.Sink.state c.args.out.now) title (Ok tt) (g.O.Sink.state c.write_line.new.out)) c.in_ok-title.ensures c.in_ok-write_line.ensures)
    c.in_err-write_played_counting.ensures.wrote)

pub returns-in_err-sums-clause-wrote : goal.returns-in_err-sums-clause-wrote
returns-in_err-sums-clause-wrote g c =
    let text = report_and (judging_by c.args.ended.now.policy.rules) c.args.ended.now.history.events (kept_in c.args.ended.now) in
    let stopped : c.from_residual-in_err-sums.result ≡ Err NoMemory = search rules in
    rw stopped
    (written_then_stopped _ _ (part kept_in c.args.number c.args.ended.now)
    (wrote_more _ _ _ (container_title c.args.number) text (Ok tt)
    (subst (λ title. Wrote (g.O.Sink.state c.args.out.now) title (Ok tt) (g.O.Sink.state c.write_line.new.out)) c.in_ok-title.ensures c.in_ok-write_line.ensures)
    c.in_ok-write_played_counting.ensures.wrote))

pub returns-clause-wrote : goal.returns-clause-wrote
returns-clause-wrote g c =
    let text = report_and (judging_by c.args.ended.now.policy.rules) c.args.ended.now.history.events (kept_in c.args.ended.now) in
    wrote_more _ _ _ (container_title c.args.number) text (Ok tt)
    (subst (λ title. Wrote (g.O.Sink.state c.args.out.now) title (Ok tt) (g.O.Sink.state c.write_line.new.out)) c.in_ok-title.ensures c.in_ok-write_line.ensures)
    c.in_ok-write_played_counting.ensures.wrote
