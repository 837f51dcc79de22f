-- Each turn counts one more flag, and at the end all are counted.
use Rattle.std.proofs.Common.{arith, refl}
use Rattle.policy_classes.proofs.Ranked.{all_counted, flag_counted}
use Rattle.policy_classes.proofs.order.flags_cost.Goals as goal

pub loop-bit-init : goal.loop-bit-init
loop-bit-init c = (refl, omega arith)

pub loop-bit-preserved : goal.loop-bit-preserved
loop-bit-preserved c = flag_counted c.args.flags c.loop-bit.bit c.loop-bit.cost c.loop-bit.invariant

pub overflow_add-cost : goal.overflow_add-cost
overflow_add-cost c = let counted = flag_counted c.args.flags c.loop-bit.bit c.loop-bit.cost c.loop-bit.invariant in let l = counted.1 in omega arith

pub returns : goal.returns
returns c = all_counted c.args.flags c.loop-bit.bit c.loop-bit.cost (omega arith) c.loop-bit.invariant.0
