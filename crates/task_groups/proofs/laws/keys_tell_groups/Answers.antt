use Rattle.task_groups.proofs.KeyParts.{groups_end, held_same}
use Rattle.task_groups.proofs.laws.keys_tell_groups.Goals as goal

pub returns-clause-groups : goal.returns-clause-groups
returns-clause-groups c = groups_end

pub returns-clause-held : goal.returns-clause-held
returns-clause-held c = held_same
