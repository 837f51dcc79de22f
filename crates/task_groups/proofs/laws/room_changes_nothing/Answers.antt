use Rattle.task_groups.proofs.Stand.{holds_room}
use Rattle.task_groups.proofs.laws.room_changes_nothing.Goals as goal

pub returns : goal.returns
returns c = holds_room
