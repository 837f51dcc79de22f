use Rattle.same_futures.proofs.Workers.{deed-step-same}
use Rattle.same_futures.proofs.laws.deeds_are_the_same.Goals as goal

pub returns : goal.returns
returns c = deed-step-same
