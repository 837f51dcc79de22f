-- A number is at most the least of all where it is at most that of the ranks so far, and of those that are left.
use Rattle.std.proofs.Common.{◌≡◌, ℕ, ◌≤◌, length}
use Rattle.std.specs.Prelude.{◌&&◌, nat_le}
use Rattle.std.specs.List.{list_all}
use Rattle.broker_judge.proofs.texts.least.Given as goal

abbrev pub invariant-loop-rank : goal.invariant-loop-rank
invariant-loop-rank l = (k : ℕ) → k ≤ 4 → (nat_le k l.least && list_all (nat_le k) l.rest) ≡ list_all (nat_le k) l.ranks

abbrev pub decreases-loop-rank : goal.decreases-loop-rank
decreases-loop-rank l = length l.rest
