-- What flags share with O_CLOEXEC.
-- By `and_high`, which gives it by a quotient and a remainder.
use Rattle.std.proofs.lemmas.Nat.Bits.{and_high}
use Rattle.broker_judge.proofs.effects.cloexec_among.Goals as goal

pub returns : goal.returns
returns c = and_high c.args.flags 1 19
