use Rattle.same_futures.proofs.Circles.{able-alike}
use Rattle.same_futures.proofs.laws.the_same_are_able.Goals as goal

pub returns : goal.returns
returns c = able-alike
