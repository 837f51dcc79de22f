use Rattle.std.proofs.Common.{arith}
use Rattle.crew.proofs.lanes.Lanes.close.Goals as goal

pub loop-lane-smaller : goal.loop-lane-smaller
loop-lane-smaller g c = omega (arith, c.in-Some.ensures.cases)
