use Rattle.std.proofs.Common.{◌≡◌, ◌≤◌, length, drop}
use Rattle.script_reader.specs.Operands.{fault_from}
use Rattle.script_reader.proofs.operand.fault_among.Given as goal

abbrev pub invariant-loop-place : goal.invariant-loop-place
invariant-loop-place l = record {
  within : l.place ≤ length l.operands;
  found : l.found ≡ fault_from l.word l.operands l.place (drop l.place l.operands);
}

abbrev pub decreases-loop-place : goal.decreases-loop-place
decreases-loop-place l = l.place
