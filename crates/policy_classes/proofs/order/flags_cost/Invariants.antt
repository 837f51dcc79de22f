-- The flags so far are counted, each at most once.
use Rattle.std.proofs.Common.{◌≡◌, ◌≤◌}
use Rattle.policy_classes.proofs.Ranked.{flags_so_far}
use Rattle.policy_classes.proofs.order.flags_cost.Given as goal

abbrev pub invariant-loop-bit : goal.invariant-loop-bit
invariant-loop-bit l = (l.cost ≡ flags_so_far l.flags l.bit) × (l.cost ≤ l.bit)
