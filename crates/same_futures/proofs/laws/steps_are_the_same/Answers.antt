use Rattle.same_futures.proofs.Workers.{step-same}
use Rattle.same_futures.proofs.laws.steps_are_the_same.Goals as goal

pub returns : goal.returns
returns c = step-same
