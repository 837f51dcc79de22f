use Rattle.same_futures.proofs.Natives.{native-same}
use Rattle.same_futures.proofs.laws.natives_are_the_same.Goals as goal

pub returns : goal.returns
returns c = native-same
