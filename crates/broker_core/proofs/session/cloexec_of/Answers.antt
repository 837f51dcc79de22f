-- What the flags of an open share with O_CLOEXEC.
-- By `and_high`, which gives it by a quotient and a remainder.
use Rattle.std.proofs.lemmas.Nat.Bits.{and_high}
use Rattle.broker_core.proofs.session.cloexec_of.Goals as goal

pub returns-in-OpenAt : goal.returns-in-OpenAt
returns-in-OpenAt c = rw c.in-OpenAt.is (and_high c.in-OpenAt.flags 1 19)
