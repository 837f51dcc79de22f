-- What is left of all rules is what is left of the rules so far, and then of the others.
use Rattle.std.proofs.Common.{◌≡◌, ◌++◌, drop}
use Rattle.policy_classes.specs.Pending.{rules_seen}
use Rattle.policy_classes.specs.Search.{left_of}
use Rattle.policy_classes.proofs.pending.left_of.Given as goal

abbrev pub invariant-loop-place : goal.invariant-loop-place
invariant-loop-place l = left_of l.field l.request (rules_seen l.rules) ≡ rules_seen l.left.items ++ left_of l.field l.request (rules_seen (drop l.place l.rules))
