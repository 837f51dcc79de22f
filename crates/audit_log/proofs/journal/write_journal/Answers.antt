-- The title comes before the lines, and has the number of the events.
-- By what writers do one after another (`Writing`).
use Rattle.std.proofs.Common.{◌≡◌, Ok, Err, length, rules, subst, sym}
use Rattle.std.specs.Prelude.{codes}
use Rattle.hist_model.specs.ReportJournal.{journal_line, lines_of, title}
use Rattle.audit_log.specs.Written.{Wrote}
use Rattle.audit_log.proofs.Writing.{wrote_front, wrote_more}
use Rattle.audit_log.proofs.journal.write_journal.Goals as goal

pub returns-in_err-write_title : goal.returns-in_err-write_title
returns-in_err-write_title g c =
    let old = g.O.Sink.state c.args.out.now in
    let new = g.O.Sink.state c.write_title.new.out in
    let K = c.args.history.now.events in
    let e = c.in_err-write_title.field-0.0 in
    let failed : c.from_residual.result ≡ Err e = search rules in
    let front = subst (λ n. Wrote old (title (codes "journal") n) (Err e) new) c.len.ensures c.in_err-write_title.ensures in
    rw failed (wrote_front old new (title (codes "journal") (length K)) (lines_of journal_line K) e front)

pub returns : goal.returns
returns g c =
    let old = g.O.Sink.state c.args.out.now in
    let mid = g.O.Sink.state c.write_title.new.out in
    let new = g.O.Sink.state c.write_events.new.out in
    let K = c.args.history.now.events in
    let front = subst (λ n. Wrote old (title (codes "journal") n) (Ok tt) mid) c.len.ensures c.in_ok-write_title.ensures in
    let rest = subst (λ J. Wrote mid (lines_of journal_line J) c.write_events.result new) (sym c.events.ensures) c.write_events.ensures in
    wrote_more old mid new (title (codes "journal") (length K)) (lines_of journal_line K) c.write_events.result front rest
