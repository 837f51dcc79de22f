use Rattle.task_groups.proofs.Stand.{respects}
use Rattle.task_groups.proofs.laws.states_that_agree_are_held.Goals as goal

pub returns : goal.returns
returns c = respects
