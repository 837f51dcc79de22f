use Rattle.std.proofs.Common.{arith}
use Rattle.long_count.proofs.Values.{digit-below}
use Rattle.long_count.proofs.digits.glyphs.Goals as goal

pub overflow_add-digit : goal.overflow_add-digit
overflow_add-digit c = omega (arith, digit-below c.args.digits.now c.loop-digit.digit-index c.requires)
