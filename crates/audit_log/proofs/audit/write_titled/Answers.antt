-- The title was written, and then the lines, or it failed.
use Rattle.std.proofs.Common.{◌≡◌, Err, length, rules}
use Rattle.std.specs.Prelude.{codes}
use Rattle.std.specs.List.{flat_map}
use Rattle.hist_model.specs.ReportAudit.{judging_by}
use Rattle.hist_model.specs.ReportJournal.{title}
use Rattle.audit_log.specs.Audited.{session_line}
use Rattle.audit_log.proofs.Writing.{wrote_front, wrote_more}
use Rattle.audit_log.proofs.audit.write_titled.Goals as goal

pub returns-in_err-write_title : goal.returns-in_err-write_title
returns-in_err-write_title g c =
    let failed : c.from_residual.result ≡ Err c.in_err-write_title.field-0.0 = search rules in
    rw failed (wrote_front _ _ _ _ _ c.in_err-write_title.ensures)

pub returns : goal.returns
returns g c =
    wrote_more (g.O.Sink.state c.args.out.now) (g.O.Sink.state c.write_title.new.out) (g.O.Sink.state c.write_sessions.new.out)
    (title (codes "audit") (length c.args.sessions.now)) (flat_map (session_line (judging_by c.args.policy.now.rules) c.args.calls.now) c.args.sessions.now) c.write_sessions.result
    c.in_ok-write_title.ensures c.write_sessions.ensures
