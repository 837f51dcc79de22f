-- What is told so far is so.
use Rattle.policy_lint.specs.Found.{AreSaid}
use Rattle.policy_lint.proofs.passed.find_shown.Given as goal

abbrev pub invariant-loop-class : goal.invariant-loop-class
invariant-loop-class l = AreSaid l.policy.rules l.findings.items
