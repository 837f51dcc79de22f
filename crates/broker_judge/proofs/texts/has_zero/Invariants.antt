-- Whether there is a zero byte is for the bytes to say that are left.
use Rattle.std.proofs.Common.{◌≡◌, length}
use Rattle.hist_model.specs.Copies.{has_zero}
use Rattle.broker_judge.proofs.texts.has_zero.Given as goal

abbrev pub invariant-loop-byte : goal.invariant-loop-byte
invariant-loop-byte l = has_zero l.rest ≡ has_zero l.bytes

abbrev pub decreases-loop-byte : goal.decreases-loop-byte
decreases-loop-byte l = length l.rest
