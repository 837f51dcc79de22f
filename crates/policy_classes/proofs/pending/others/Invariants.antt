-- The atoms so far are those of the other fields so far.
use Rattle.std.proofs.Common.{◌≡◌, take}
use Rattle.policy_classes.specs.Pending.{atoms_seen}
use Rattle.policy_classes.specs.Search.{others}
use Rattle.policy_classes.proofs.pending.others.Given as goal

abbrev pub invariant-loop-atom : goal.invariant-loop-atom
invariant-loop-atom l = atoms_seen l.rest.items ≡ others l.field (atoms_seen (take l.atom-index l.atoms))
