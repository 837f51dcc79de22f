-- What is left of the rules so far.
use Rattle.std.proofs.Common.{◌≡◌, map, take}
use Rattle.policy_lint.specs.Passed.{rule_of_any_text}
use Rattle.policy_lint.proofs.any_text.of_any_text.Given as goal

abbrev pub invariant-loop-rule : goal.invariant-loop-rule
invariant-loop-rule l = l.made.items ≡ map rule_of_any_text (take l.rule-index l.rules)
