-- The descriptors so far are those that the atoms so far ask for.
use Rattle.std.proofs.Common.{◌≡◌, take}
use Rattle.policy_classes.specs.Chosen.{descriptors_asked}
use Rattle.policy_classes.specs.Pending.{atoms_seen}
use Rattle.policy_classes.proofs.chosen.descriptors_asked.Given as goal

abbrev pub invariant-loop-atom : goal.invariant-loop-atom
invariant-loop-atom l = l.numbers.items ≡ descriptors_asked (atoms_seen (take l.atom-index l.atoms))
