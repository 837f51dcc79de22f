-- The bits so far go on with the names that are left.
use Rattle.std.proofs.Common.{◌≡◌, drop}
use Rattle.call_lines.proofs.Bits.{texts}
use Rattle.call_lines.specs.Operands.{bits_with}
use Rattle.call_lines.proofs.operands.bits_of.Given as goal

abbrev pub invariant-loop-name : goal.invariant-loop-name
invariant-loop-name l = bits_with l.nr 0 (texts l.names) ≡ bits_with l.nr l.bits (texts (drop l.name-index l.names))
