-- The lists so far are those of the rules so far.
use Rattle.std.proofs.Common.{◌≡◌, map, take}
use Rattle.policy_classes.specs.Atoms.{atoms_in}
use Rattle.policy_classes.proofs.atoms.atoms_by_rule.Given as goal

abbrev pub invariant-loop-rule : goal.invariant-loop-rule
invariant-loop-rule l = l.all.items ≡ map atoms_in (take l.rule-index l.rules)
