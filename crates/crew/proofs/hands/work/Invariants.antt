use Rattle.std.proofs.Common.{All}
use Rattle.crew.specs.Locks.{Admits, AreOf}
use Rattle.crew.proofs.hands.work.Given as goal

abbrev pub invariant-loop : goal.invariant-loop
invariant-loop g l = AreOf l.locks.items l.hand.passes.items × All (Admits l.hand.turn.errand.worker) l.locks.items
