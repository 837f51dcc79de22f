use Rattle.std.proofs.Common.{◌*◌, ◌+◌, ◌^◌, arith, length}
use Rattle.long_count.specs.Digits.{value}
use Rattle.long_count.proofs.Values.{digits-more, pushed}
use Rattle.long_count.proofs.digits.push_number.Goals as goal

pub digits-preserved : goal.digits-preserved
digits-preserved c = record {
  digits = rw c.in_ok-push.ensures.items (digits-more c.digits.digits.items _ c.digits.invariant.digits (omega arith));
  is = pushed c.digits.digits.items c.push.new.self.items c.digits.rest
      (value c.args.digits.now.items + 10 ^ length c.args.digits.now.items * c.args.number) c.in_ok-push.ensures.items c.digits.invariant.is;
}
