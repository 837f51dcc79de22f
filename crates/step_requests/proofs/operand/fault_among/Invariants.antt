use Rattle.std.proofs.Common.{◌≡◌, ◌≤◌, length, drop}
use Rattle.step_requests.specs.Operands.{fault_from}
use Rattle.step_requests.proofs.operand.fault_among.Given as goal

abbrev pub invariant-loop-place : goal.invariant-loop-place
invariant-loop-place l = record {
  within : l.place ≤ length l.line;
  found : l.found ≡ fault_from l.form (length l.line) l.place (drop l.place l.line);
}

abbrev pub decreases-loop-place : goal.decreases-loop-place
decreases-loop-place l = l.place
