-- What is left of the conditions so far.
use Rattle.std.proofs.Common.{◌≡◌, map, take}
use Rattle.policy_lint.specs.Passed.{cond_of_any_text}
use Rattle.policy_lint.proofs.any_text.conds_of_any_text.Given as goal

abbrev pub invariant-loop-cond : goal.invariant-loop-cond
invariant-loop-cond l = l.made.items ≡ map cond_of_any_text (take l.cond-index l.conds)
