use Rattle.std.proofs.Common.{◌≡◌}
use Rattle.turn_lock.specs.Facts.{IsPassOf}
use Rattle.trials_leaves.proofs.turns.meet.Given as goal

abbrev pub invariant-loop : goal.invariant-loop
invariant-loop g l = IsPassOf l.lock l.pass × (l.pass.first ≡ l.fn.pass.first) × (l.pass.out ≡ l.fn.pass.out)
