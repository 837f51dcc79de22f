use Rattle.same_futures.proofs.Circles.{turn-alike}
use Rattle.same_futures.proofs.laws.turns_of_places_keep_them_the_same.Goals as goal

pub returns : goal.returns
returns c = turn-alike
