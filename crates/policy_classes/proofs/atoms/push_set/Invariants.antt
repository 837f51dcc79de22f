-- The atoms so far are those of the flags so far.
use Rattle.std.proofs.Common.{◌≡◌, ◌++◌, map, take}
use Rattle.policy_classes.specs.declared.atoms.Atom.TheVariants as atom
use Rattle.policy_classes.proofs.atoms.push_set.Given as goal

abbrev pub invariant-loop-flag : goal.invariant-loop-flag
invariant-loop-flag l = l.atoms.items ≡ l.fn.atoms.items ++ map atom.Set (take l.flag-index l.flags)
