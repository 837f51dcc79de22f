-- The references so far are to the atoms so far.
use Rattle.std.proofs.Common.{◌≡◌, take}
use Rattle.policy_classes.specs.Pending.{atoms_seen}
use Rattle.policy_classes.proofs.pending.each_of.Given as goal

abbrev pub invariant-loop-atom : goal.invariant-loop-atom
invariant-loop-atom l = atoms_seen l.all.items ≡ take l.atom-index l.atoms
