-- The digits of the bytes so far stand at the front.
use Rattle.audit_log.proofs.Hexed.{Stored}
use Rattle.audit_log.proofs.line.hex_piece.Given as goal

abbrev pub invariant-loop-place : goal.invariant-loop-place
invariant-loop-place l = Stored l.bytes l.place l.digits
