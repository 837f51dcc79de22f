use Rattle.std.proofs.Common.{◌≡◌, length}
use Rattle.trials_broker.proofs.pods.containers.Given as goal

abbrev pub invariant-loop-place : goal.invariant-loop-place
invariant-loop-place g l = length l.all.items ≡ l.place
