-- The first mark is that of the atoms that are left.
use Rattle.std.proofs.Common.{◌≡◌, drop}
use Rattle.policy_classes.specs.Marks.{asked_mark}
use Rattle.policy_classes.specs.Pending.{atoms_seen}
use Rattle.policy_classes.proofs.marks.asked_mark.Given as goal

abbrev pub invariant-loop-atom : goal.invariant-loop-atom
invariant-loop-atom l = asked_mark l.field (atoms_seen l.atoms) ≡ asked_mark l.field (atoms_seen (drop l.atom-index l.atoms))
