-- The bytes so far are the same in both.
-- By the places that were looked at.
use Rattle.std.proofs.Common.{◌≡◌, take}
use Rattle.audit_check.proofs.compare.common.Given as goal

abbrev pub invariant-loop-place : goal.invariant-loop-place
invariant-loop-place l = take l.place l.text ≡ take l.place l.piece
