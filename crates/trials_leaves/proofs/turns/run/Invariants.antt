use Rattle.turn_lock.specs.Facts.{IsPassOf}
use Rattle.trials_leaves.proofs.turns.run.Given as goal

abbrev pub invariant-loop : goal.invariant-loop
invariant-loop g l = IsPassOf l.lock l.pass
