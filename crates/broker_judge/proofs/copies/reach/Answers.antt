-- A read whose end is reached tells nothing behind it.
use Rattle.std.proofs.Common.{arith}
use Rattle.hist_model.specs.Copies.{further}
use Rattle.broker_judge.proofs.Laid.{none_told, passed}
use Rattle.broker_judge.proofs.copies.reach.Goals as goal

pub loop-read-preserved : goal.loop-read-preserved
loop-read-preserved c = record {
  within = omega arith;
  behind = λ i low under. passed c.args.least c.in-Some.read.now c.loop-read.rest.now c.in-Some.later.now (further c.args.addr i) _ c.in-Some.ensures.cases.0
      (c.loop-read.invariant.behind i (omega arith) under) (c.end_of.ensures.behind i (omega arith) under);
}

pub returns-clause-behind : goal.returns-clause-behind
returns-clause-behind c = λ i low under. none_told c.args.least c.args.reads.now c.loop-read.rest.now (further c.args.addr i) c.in_default.ensures.cases
    (c.loop-read.invariant.behind i low under)
