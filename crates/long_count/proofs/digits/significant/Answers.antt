use Rattle.std.proofs.Common.{arith}
use Rattle.long_count.proofs.Values.{trimmed_left, zeros_left}
use Rattle.long_count.proofs.digits.significant.Goals as goal

pub zeros-preserved : goal.zeros-preserved
zeros-preserved c = record {
  within = omega (arith, c.zeros.invariant.within);
  is = zeros_left c.args.digits.now c.zeros.count c.zeros-test.true c.if-digits-count-eq0.true c.zeros.invariant.is;
}

pub returns-else-digits-count-eq0-clause-trimmed : goal.returns-else-digits-count-eq0-clause-trimmed
returns-else-digits-count-eq0-clause-trimmed c =
    trimmed_left c.args.digits.now c.zeros.count c.zeros-test.true c.zeros.invariant.within c.if-digits-count-eq0.false
