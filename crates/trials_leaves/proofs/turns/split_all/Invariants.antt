use Rattle.std.proofs.Common.{◌≡◌, ◌≤◌, length, true, All, vec_capacity}
use Rattle.turn_lock.specs.Facts.{IsPassOf}
use Rattle.trials_leaves.proofs.turns.split_all.Given as goal

abbrev pub invariant-loop-worker : goal.invariant-loop-worker
invariant-loop-worker l = IsPassOf l.lock l.first × (l.first.first ≡ true) × (l.first.out ≡ length l.runners.items) × (l.worker ≡ length l.runners.items) × (l.workers ≤ vec_capacity l.runners) × All (λ r. IsPassOf l.lock r.pass) l.runners.items
