use Rattle.same_futures.proofs.Futures.{same-after}
use Rattle.same_futures.proofs.laws.turns_keep_them_the_same.Goals as goal

pub returns : goal.returns
returns c = same-after
