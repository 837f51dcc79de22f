use Rattle.task_groups.proofs.Stand.{has_row}
use Rattle.task_groups.proofs.laws.made_groups_have_rows.Goals as goal

pub returns : goal.returns
returns c s G o T l = has_row s G T o l
