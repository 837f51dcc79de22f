-- The hints so far are so.
use Rattle.policy_lint.specs.Found.{AreSaid}
use Rattle.policy_lint.proofs.hints.find_hints.Given as goal

abbrev pub invariant-loop-candidate : goal.invariant-loop-candidate
invariant-loop-candidate l = AreSaid l.policy.rules l.hints.items
