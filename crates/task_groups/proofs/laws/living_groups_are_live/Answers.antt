use Rattle.task_groups.proofs.Stand.{living_live}
use Rattle.task_groups.proofs.laws.living_groups_are_live.Goals as goal

pub returns : goal.returns
returns c s G o T l f = living_live s G T o l f
