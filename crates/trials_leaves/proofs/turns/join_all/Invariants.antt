use Rattle.std.proofs.Common.{◌≡◌, length, true, All}
use Rattle.turn_lock.specs.Facts.{IsPassOf}
use Rattle.trials_leaves.proofs.turns.join_all.Given as goal

abbrev pub invariant-loop-runner : goal.invariant-loop-runner
invariant-loop-runner l = IsPassOf l.lock l.first × (l.first.first ≡ true) × (l.first.out ≡ length l.runners.items) × All (λ r. IsPassOf l.lock r.pass) l.runners.items

abbrev pub decreases-loop-runner : goal.decreases-loop-runner
decreases-loop-runner l = goal.left-loop-runner l
