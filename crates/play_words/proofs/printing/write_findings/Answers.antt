use Rattle.std.proofs.Common.{rules, ◌≡◌, Ok, Err, length, subst}
use Rattle.audit_check.specs.Trail.{trail}
use Rattle.audit_log.proofs.Writing.{wrote_more, wrote_stopped}
use Rattle.audit_log.specs.Written.{Wrote}
use Rattle.hist_model.specs.ReportAudit.{judging_by}
use Rattle.play_words.specs.Findings.{yes_line}
use Rattle.play_words.proofs.printing.write_findings.Goals as goal

pub returns-in_err-write_yes : goal.returns-in_err-write_yes
returns-in_err-write_yes g c =
    let K = c.args.history.now.events in
    let stopped : c.from_residual.result ≡ Err c.in_err-write_yes.field-0.0 = search rules in
    wrote_stopped _ _ (yes_line (length K) c.args.finished) (trail (judging_by c.args.policy.now.rules) K) _ _ stopped
    (subst (λ n. Wrote (g.O.Sink.state c.args.out.now) (yes_line n c.args.finished) (Err c.in_err-write_yes.field-0.0) (g.O.Sink.state c.write_yes.new.out)) c.len.ensures c.in_err-write_yes.ensures)

pub returns : goal.returns
returns g c =
    let K = c.args.history.now.events in
    wrote_more _ _ _ (yes_line (length K) c.args.finished) (trail (judging_by c.args.policy.now.rules) K) _
    (subst (λ n. Wrote (g.O.Sink.state c.args.out.now) (yes_line n c.args.finished) (Ok c.in_ok-write_yes.field-0) (g.O.Sink.state c.write_yes.new.out)) c.len.ensures c.in_ok-write_yes.ensures)
    c.write_trail.ensures
