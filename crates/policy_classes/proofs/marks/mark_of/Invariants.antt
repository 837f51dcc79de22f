-- The mark so far, with the bytes that are left, is the whole mark.
use Rattle.std.proofs.Common.{◌≡◌, drop}
use Rattle.policy_classes.specs.Marks.{mark_from, mark_of}
use Rattle.policy_classes.proofs.marks.mark_of.Given as goal

abbrev pub invariant-loop-byte : goal.invariant-loop-byte
invariant-loop-byte l = mark_of l.text ≡ mark_from l.mark (drop l.byte-index l.text)
