-- Each read is noted, and at the end the best of all are.
use Rattle.std.proofs.Common.{arith, get_or}
use Rattle.hist_model.specs.Copies.{further}
use Rattle.broker_judge.proofs.Best.{all_noted, noted_over}
use Rattle.broker_judge.proofs.texts.note_reads.Goals as goal

pub loop-read-preserved : goal.loop-read-preserved
loop-read-preserved c = record {
  size = omega arith;
  best = λ i low. noted_over c.in-Some.read.now c.loop-read.rest.now c.in-Some.later.now (further c.args.addr i) (get_or c.args.wanted.now i 0) _ _ _ c.in-Some.ensures.cases.0
      (c.loop-read.invariant.best i low) (c.note_read.ensures.noted i (omega arith));
}

pub returns-clause-noted : goal.returns-clause-noted
returns-clause-noted c = λ i low least. all_noted least c.args.reads.now c.loop-read.rest.now (further c.args.addr i) (get_or c.args.wanted.now i 0) _ _ c.in_default.ensures.cases
    (c.loop-read.invariant.best i low)
