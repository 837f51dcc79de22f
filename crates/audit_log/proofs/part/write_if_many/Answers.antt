-- All is kept, or all is written.
use Rattle.std.proofs.Common.{rules, ◌≡◌, Err}
use Rattle.audit_log.proofs.Writing.{all_kept, none_kept}
use Rattle.audit_log.proofs.part.write_if_many.Goals as goal

pub returns-then-not-are_many-clause-gathered : goal.returns-then-not-are_many-clause-gathered
returns-then-not-are_many-clause-gathered g c = all_kept (g.O.Sink.state c.args.out.now) c.args.lines.now

pub returns-in_err-write_line-clause-failed : goal.returns-in_err-write_line-clause-failed
returns-in_err-write_line-clause-failed g c =
    let failed : c.from_residual.result ≡ Err c.in_err-write_line.field-0.0 = search rules in
    rw failed c.in_err-write_line.ensures

pub returns-clause-gathered : goal.returns-clause-gathered
returns-clause-gathered g c =
    none_kept (g.O.Sink.state c.args.out.now) (g.O.Sink.state c.write_line.new.out) c.args.lines.now c.clear.new.self c.clear.ensures c.in_ok-write_line.ensures
