-- The rules so far are useful, or something is said of them.
use Rattle.policy_lint.specs.Found.{FoundUpTo}
use Rattle.policy_lint.proofs.linting.find_faults.Given as goal

abbrev pub invariant-loop-place : goal.invariant-loop-place
invariant-loop-place l = FoundUpTo l.rules l.place l.findings.items
