-- The rules so far are the policy's own.
use Rattle.std.proofs.Common.{◌≡◌, ◌+◌, drop}
use Rattle.policy_lint.specs.Own.{own_number}
use Rattle.policy_lint.proofs.own.own_number.Given as goal

abbrev pub invariant-loop-place : goal.invariant-loop-place
invariant-loop-place l = own_number l.rules ≡ l.place + own_number (drop l.place l.rules)
