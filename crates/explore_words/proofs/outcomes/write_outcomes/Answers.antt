-- One more outcome was written, or failed.
use Rattle.std.proofs.Common.{rules, arith, ◌≡◌, Err}
use Rattle.explore_words.proofs.Explored.{all_written, none_written, outcome_failed, outcome_written}
use Rattle.explore_words.proofs.outcomes.write_outcomes.Goals as goal

pub loop-index-init : goal.loop-index-init
loop-index-init g c = none_written c.args.outcomes.now (g.O.Sink.state c.args.out.now)

pub returns-in_err-write_outcome : goal.returns-in_err-write_outcome
returns-in_err-write_outcome g c =
    let failed : c.from_residual.result ≡ Err c.in_err-write_outcome.field-0.0 = search rules in
    rw failed
    (outcome_failed c.args.outcomes.now c.loop-index.index c.index-outcomes-index.result c.in_err-write_outcome.field-0.0
    (g.O.Sink.state c.args.out.now) (g.O.Sink.state c.loop-index.out) (g.O.Sink.state c.write_outcome.new.out)
    (omega arith) c.index-outcomes-index.is c.loop-index.invariant c.in_err-write_outcome.ensures)

pub loop-index-preserved : goal.loop-index-preserved
loop-index-preserved g c =
    outcome_written c.args.outcomes.now c.loop-index.index c.index-outcomes-index.result
    (g.O.Sink.state c.args.out.now) (g.O.Sink.state c.loop-index.out) (g.O.Sink.state c.write_outcome.new.out)
    (omega arith) c.index-outcomes-index.is c.loop-index.invariant c.in_ok-write_outcome.ensures

pub returns : goal.returns
returns g c = all_written c.args.outcomes.now c.loop-index.index (g.O.Sink.state c.args.out.now) (g.O.Sink.state c.loop-index.out) (omega arith) c.loop-index.invariant
