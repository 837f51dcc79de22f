use Rattle.std.proofs.Common.{length}
use Rattle.crew.proofs.lanes.Lanes.close.Given as goal

abbrev pub decreases-loop-lane : goal.decreases-loop-lane
decreases-loop-lane g l = length l.lanes.items
