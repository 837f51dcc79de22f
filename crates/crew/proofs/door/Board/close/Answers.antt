use Rattle.std.proofs.Common.{arith}
use Rattle.crew.proofs.door.Board.close.Goals as goal

pub loop-lanes-smaller : goal.loop-lanes-smaller
loop-lanes-smaller g c = omega (arith, c.in-Some.ensures.cases)
