-- The lines so far are gathered, and what is kept is written in the end; the place of each event is counted.
-- By what is gathered with one more line (`Writing`), and by the number of events that are past.
use Rattle.std.proofs.Common.{rules, arith, ◌≡◌, ◌+◌, ◌++◌, ◌∙◌, ap, Err, reverse, subst, take}
use Rattle.hist_model.specs.ReportJournal.{journal_line, lines_of}
use Rattle.audit_log.specs.Written.{Gathered}
use Rattle.audit_log.specs.declared.error.ReportError.TheVariants.{NoMemory}
use Rattle.audit_log.proofs.Past.{counted_line}
use Rattle.audit_log.proofs.Writing.{gathered_failed, gathered_lost, gathered_more, gathered_whole, lines_next, lines_rest, lines_whole, no_lines_gathered}
use Rattle.audit_log.proofs.journal.write_events.Goals as goal

pub loop-place-init : goal.loop-place-init
loop-place-init g c = record { gathered = no_lines_gathered journal_line (g.O.Sink.state c.args.out.now) c.clear.new.self c.clear.ensures; counted = c.of-number.ensures }

pub returns-in_err-push_counted : goal.returns-in_err-push_counted
returns-in_err-push_counted g c =
    let f = journal_line in
    let xs = c.args.events.now in
    let i = c.loop-place.place in
    let failed : c.from_residual.result ≡ Err NoMemory = search rules in
    let (rest, q) = lines_rest f xs i in
    rw failed
    (gathered_lost (g.O.Sink.state c.args.out.now) (g.O.Sink.state c.loop-place.out) (lines_of f (reverse (take i xs))) (lines_of f (reverse xs)) c.loop-place.line rest
    c.loop-place.invariant.gathered q)

pub returns-in_err-write_if_many : goal.returns-in_err-write_if_many
returns-in_err-write_if_many g c =
    let f = journal_line in
    let xs = c.args.events.now in
    let i = c.loop-place.place in
    let e = c.index-events-place.result in
    let line : c.push_counted.new.line ≡ c.loop-place.line ++ f (reverse (take i xs)) e =
    c.in_ok-push_counted.ensures.line ∙ ap (λ ys. c.loop-place.line ++ ys) (counted_line xs i c.loop-place.number e (omega arith) c.loop-place.invariant.counted) in
    let failed : c.from_residual-in_err-write_if_many.result ≡ Err c.in_err-write_if_many.field-0.0 = search rules in
    let (rest, q) = lines_rest f xs (i + 1) in
    rw failed
    (gathered_failed (g.O.Sink.state c.args.out.now) (g.O.Sink.state c.loop-place.out) (g.O.Sink.state c.write_if_many.new.out) (lines_of f (reverse (take i xs)))
    (lines_of f (reverse (take (i + 1) xs))) (lines_of f (reverse xs)) c.loop-place.line (f (reverse (take i xs)) e) c.push_counted.new.line rest c.in_err-write_if_many.field-0.0
    c.loop-place.invariant.gathered line (lines_next f xs i e (omega arith) c.index-events-place.is) q c.in_err-write_if_many.ensures.failed)

pub loop-place-preserved : goal.loop-place-preserved
loop-place-preserved g c =
    let f = journal_line in
    let xs = c.args.events.now in
    let i = c.loop-place.place in
    let e = c.index-events-place.result in
    let line : c.push_counted.new.line ≡ c.loop-place.line ++ f (reverse (take i xs)) e =
    c.in_ok-push_counted.ensures.line ∙ ap (λ ys. c.loop-place.line ++ ys) (counted_line xs i c.loop-place.number e (omega arith) c.loop-place.invariant.counted) in
    record {
      gathered =
          gathered_more (g.O.Sink.state c.args.out.now) (g.O.Sink.state c.loop-place.out) (g.O.Sink.state c.write_if_many.new.out) (lines_of f (reverse (take i xs)))
          (lines_of f (reverse (take (i + 1) xs))) c.loop-place.line (f (reverse (take i xs)) e) c.push_counted.new.line c.write_if_many.new.lines
          c.loop-place.invariant.gathered line (lines_next f xs i e (omega arith) c.index-events-place.is) c.in_ok-write_if_many.ensures.gathered;
      counted = c.in_ok-push_counted.ensures.next ∙ ap (λ n. n + 1) c.loop-place.invariant.counted;
    }

pub returns : goal.returns
returns g c =
    let f = journal_line in
    let xs = c.args.events.now in
    let old = g.O.Sink.state c.args.out.now in
    let mid = g.O.Sink.state c.loop-place.out in
    let whole = subst (λ text. Gathered old text c.loop-place.line mid) (lines_whole f xs c.loop-place.place (omega arith)) c.loop-place.invariant.gathered in
    gathered_whole old mid (g.O.Sink.state c.write_line.new.out) (lines_of f (reverse xs)) c.loop-place.line c.write_line.result whole c.write_line.ensures
