-- No power so far is the number.
use Rattle.std.proofs.Common.{ℕ, ◌<◌, ◌^◌, ◌≢◌}
use Rattle.policy_classes.proofs.plain.is_power.Given as goal

abbrev pub invariant-loop-k : goal.invariant-loop-k
invariant-loop-k l = (j : ℕ) → j < l.k → l.bit ≢ 2 ^ j
