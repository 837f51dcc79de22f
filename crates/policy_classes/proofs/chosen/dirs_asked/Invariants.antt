-- The directories so far are those that the atoms so far ask for.
use Rattle.std.proofs.Common.{◌≡◌, take}
use Rattle.policy_classes.specs.Chosen.{dirs_asked}
use Rattle.policy_classes.specs.Pending.{atoms_seen}
use Rattle.policy_classes.proofs.chosen.dirs_asked.Given as goal

abbrev pub invariant-loop-atom : goal.invariant-loop-atom
invariant-loop-atom l = l.dirs.items ≡ dirs_asked l.field (atoms_seen (take l.atom-index l.atoms))
