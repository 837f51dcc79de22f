use Rattle.std.proofs.Common.{◌≡◌}
use Rattle.trials_leaves.proofs.queues.receive.Given as goal

abbrev pub invariant-loop : goal.invariant-loop
invariant-loop g l = l.pass.queue ≡ l.queue
