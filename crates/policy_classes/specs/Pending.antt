-- What rules refer to of which some atoms are still to be decided.
use Rattle.std.specs.Prelude.{List, map}
use Rattle.std.specs.Borrow.{Bor}
use Rattle.policy_classes.specs.declared.atoms.Atom.{Atom}
use Rattle.policy_classes.specs.declared.pending.Pending.{Pending}
use Rattle.policy_classes.specs.Search.{Waiting}

-- the atoms that are referred to
abbrev pub atoms_seen : List (Bor Atom) → List Atom
atoms_seen atoms = map (λ a. a.now) atoms

-- a rule with the atoms that it refers to
abbrev pub rule_seen : Pending → Waiting
rule_seen rule = record { place = rule.place; atoms = atoms_seen rule.atoms.items }

abbrev pub rules_seen : List Pending → List Waiting
rules_seen rules = map rule_seen rules
