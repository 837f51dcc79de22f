-- The atoms so far are those that there were, and those of the rules so far.
use Rattle.std.proofs.Common.{◌≡◌, ◌++◌, take}
use Rattle.std.specs.List.{flat_map}
use Rattle.policy_classes.specs.Pending.{atoms_seen, rules_seen}
use Rattle.policy_classes.specs.Search.{Waiting}
use Rattle.policy_classes.proofs.pending.push_atoms.Given as goal

abbrev pub invariant-loop-rule : goal.invariant-loop-rule
invariant-loop-rule l =
    atoms_seen l.atoms.items ≡ atoms_seen l.fn.atoms.items ++ flat_map (λ (c : Waiting). c.atoms) (rules_seen (take l.rule-index l.rules))
