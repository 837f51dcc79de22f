-- The ranks so far are those that there were, and those of the bytes so far.
use Rattle.std.proofs.Common.{◌≡◌, ◌++◌, map, take}
use Rattle.policy_classes.specs.Order.{rank_of}
use Rattle.policy_classes.proofs.order.push_ranks.Given as goal

abbrev pub invariant-loop-byte : goal.invariant-loop-byte
invariant-loop-byte l = l.ranks.items ≡ l.fn.ranks.items ++ map rank_of (take l.byte-index l.text)
