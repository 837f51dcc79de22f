use Rattle.std.proofs.Common.{◌≡◌}
use Rattle.trials_leaves.proofs.queues.take_from.Given as goal

abbrev pub invariant-loop-id : goal.invariant-loop-id
invariant-loop-id g l = l.pass.queue ≡ l.queue
