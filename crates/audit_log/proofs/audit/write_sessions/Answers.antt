-- The lines so far are gathered, and what is kept is written in the end.
-- By what is gathered with one more line (`Writing`).
use Rattle.std.proofs.Common.{rules, arith, ◌≡◌, ◌+◌, Err, drop, subst, take}
use Rattle.std.specs.List.{flat_map}
use Rattle.hist_model.specs.ReportAudit.{judging_by}
use Rattle.audit_log.specs.Audited.{session_line}
use Rattle.audit_log.specs.Written.{Gathered}
use Rattle.audit_log.specs.declared.error.ReportError.TheVariants.{NoMemory}
use Rattle.audit_log.proofs.Writing.{flat_more, flat_rest, flat_whole, gathered_failed, gathered_lost, gathered_more, gathered_whole, none_gathered}
use Rattle.audit_log.proofs.audit.write_sessions.Goals as goal

pub loop-row-init : goal.loop-row-init
loop-row-init g c = none_gathered (g.O.Sink.state c.args.out.now) c.clear.new.self c.clear.ensures

pub returns-in_err-push_row : goal.returns-in_err-push_row
returns-in_err-push_row g c =
    let f = session_line (judging_by c.args.policy.now.rules) c.args.calls.now in
    let xs = c.args.sessions.now in
    let i = c.loop-row.row in
    let failed : c.from_residual.result ≡ Err NoMemory = search rules in
    rw failed
    (gathered_lost (g.O.Sink.state c.args.out.now) (g.O.Sink.state c.loop-row.out) (flat_map f (take i xs)) (flat_map f xs) c.loop-row.line (flat_map f (drop i xs))
    c.loop-row.invariant (flat_rest f xs i))

pub returns-in_err-write_if_many : goal.returns-in_err-write_if_many
returns-in_err-write_if_many g c =
    let f = session_line (judging_by c.args.policy.now.rules) c.args.calls.now in
    let xs = c.args.sessions.now in
    let i = c.loop-row.row in
    let x = c.index-sessions-row.result in
    let failed : c.from_residual-in_err-write_if_many.result ≡ Err c.in_err-write_if_many.field-0.0 = search rules in
    rw failed
    (gathered_failed (g.O.Sink.state c.args.out.now) (g.O.Sink.state c.loop-row.out) (g.O.Sink.state c.write_if_many.new.out) (flat_map f (take i xs))
    (flat_map f (take (i + 1) xs)) (flat_map f xs) c.loop-row.line (f x) c.push_row.new.line (flat_map f (drop (i + 1) xs)) c.in_err-write_if_many.field-0.0
    c.loop-row.invariant c.in_ok-push_row.ensures (flat_more f xs i x (omega arith) c.index-sessions-row.is) (flat_rest f xs (i + 1)) c.in_err-write_if_many.ensures.failed)

pub loop-row-preserved : goal.loop-row-preserved
loop-row-preserved g c =
    let f = session_line (judging_by c.args.policy.now.rules) c.args.calls.now in
    let xs = c.args.sessions.now in
    let i = c.loop-row.row in
    let x = c.index-sessions-row.result in
    gathered_more (g.O.Sink.state c.args.out.now) (g.O.Sink.state c.loop-row.out) (g.O.Sink.state c.write_if_many.new.out) (flat_map f (take i xs)) (flat_map f (take (i + 1) xs))
    c.loop-row.line (f x) c.push_row.new.line c.write_if_many.new.lines c.loop-row.invariant c.in_ok-push_row.ensures (flat_more f xs i x (omega arith) c.index-sessions-row.is) c.in_ok-write_if_many.ensures.gathered

pub returns : goal.returns
returns g c =
    let f = session_line (judging_by c.args.policy.now.rules) c.args.calls.now in
    let xs = c.args.sessions.now in
    let old = g.O.Sink.state c.args.out.now in
    let mid = g.O.Sink.state c.loop-row.out in
    let whole = subst (λ text. Gathered old text c.loop-row.line mid) (flat_whole f xs c.loop-row.row (omega arith)) c.loop-row.invariant in
    gathered_whole old mid (g.O.Sink.state c.write_line.new.out) (flat_map f xs) c.loop-row.line c.write_line.result whole c.write_line.ensures
