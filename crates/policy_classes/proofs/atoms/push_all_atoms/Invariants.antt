-- The atoms so far are those of the conditions so far.
use Rattle.std.proofs.Common.{◌≡◌, ◌++◌, take}
use Rattle.policy_classes.specs.Atoms.{atoms_of_all}
use Rattle.policy_classes.proofs.atoms.push_all_atoms.Given as goal

abbrev pub invariant-loop-cond : goal.invariant-loop-cond
invariant-loop-cond l = l.atoms.items ≡ l.fn.atoms.items ++ atoms_of_all (take l.cond-index l.conds)
