-- The rules for the call are those so far, and then those of the others.
use Rattle.std.proofs.Common.{◌≡◌, ◌++◌, drop}
use Rattle.policy_classes.specs.Pending.{rules_seen}
use Rattle.policy_classes.specs.Search.{waiting_from}
use Rattle.policy_classes.proofs.pending.waiting.Given as goal

abbrev pub invariant-loop-place : goal.invariant-loop-place
invariant-loop-place l = waiting_from 0 l.rules l.nr ≡ rules_seen l.waiting.items ++ waiting_from l.place (drop l.place l.rules) l.nr
