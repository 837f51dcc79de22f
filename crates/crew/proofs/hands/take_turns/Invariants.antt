use Rattle.std.proofs.Common.{◌≡◌}
use Rattle.crew.specs.Locks.{AreOf}
use Rattle.crew.proofs.hands.take_turns.Given as goal

abbrev pub invariant-loop : goal.invariant-loop
invariant-loop g l = record {
  own : AreOf l.locks.items l.hand.passes.items;
  worker : l.hand.turn.errand.worker ≡ l.fn.hand.turn.errand.worker;
}
