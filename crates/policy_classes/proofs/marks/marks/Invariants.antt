-- The marks so far are those of the rules so far.
use Rattle.std.proofs.Common.{◌≡◌, map, take}
use Rattle.policy_classes.specs.Marks.{asked_mark}
use Rattle.policy_classes.specs.Pending.{rules_seen}
use Rattle.policy_classes.specs.Search.{Waiting}
use Rattle.policy_classes.proofs.marks.marks.Given as goal

abbrev pub invariant-loop-rule : goal.invariant-loop-rule
invariant-loop-rule l = l.marks.items ≡ map (λ (c : Waiting). asked_mark l.field c.atoms) (rules_seen (take l.rule-index l.rules))
