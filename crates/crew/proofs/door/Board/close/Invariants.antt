use Rattle.std.proofs.Common.{length}
use Rattle.crew.proofs.door.Board.close.Given as goal

abbrev pub decreases-loop-lanes : goal.decreases-loop-lanes
decreases-loop-lanes g l = length l.rooms.items
