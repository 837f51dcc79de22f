-- Each read is laid over what is known, and at the end all is known.
use Rattle.std.proofs.Common.{arith}
use Rattle.hist_model.specs.Copies.{further}
use Rattle.broker_judge.proofs.Laid.{at_end, laid_over}
use Rattle.broker_judge.proofs.copies.lay_all.Goals as goal

pub loop-read-preserved : goal.loop-read-preserved
loop-read-preserved c = record {
  size = omega arith;
  told = λ i low. laid_over c.args.least c.in-Some.read.now c.loop-read.rest.now c.in-Some.later.now (further c.args.addr i) _ _ _ c.in-Some.ensures.cases.0
      (c.loop-read.invariant.told i low) (c.lay_worth.ensures.laid i (omega arith));
}

pub returns-clause-laid : goal.returns-clause-laid
returns-clause-laid c = λ i low. at_end c.args.least c.args.reads.now c.loop-read.rest.now (further c.args.addr i) _ _ c.in_default.ensures.cases
    (c.loop-read.invariant.told i low)
