-- What follows from the definitions.
use Rattle.std.specs.Prelude.{◌≡◌, false, List, All}
use Rattle.hist_model.specs.Decisions.{meets}
use Rattle.hist_model.specs.declared.policy.Cond.{Cond}
use Rattle.hist_model.specs.declared.request.Request.{Request}
use Rattle.policy_classes.specs.declared.atoms.Atom.{Atom}
use Rattle.policy_classes.specs.declared.atoms.Field.{Field}
use Rattle.policy_classes.specs.Atoms.{all_hold, atoms_of, holds}
use Rattle.policy_classes.specs.Choices.{HasNoMagic, IsOneField, choices}
use Rattle.policy_classes.specs.Fields.{field_eq, field_of, sight, suits}

-- a condition is met exactly where each of its atoms holds
abbrev pub ConditionsAreAtoms : Type 0
ConditionsAreAtoms = (c : Cond) (q : Request) → meets c q ≡ all_hold (atoms_of c) q

-- an atom holds exactly where what is seen of its field suits it
abbrev pub OneFieldCounts : Type 0
OneFieldCounts = (a : Atom) (q : Request) → holds a q ≡ suits a (sight (field_of a) q)

-- a choice of a value for one field changes nothing that is seen of another
abbrev pub ChoicesAreIndependent : Type 0
ChoicesAreIndependent = (f : Field) (atoms : List Atom) (q : Request) → IsOneField f → HasNoMagic q
    → All (λ p. (g : Field) → IsOneField g → field_eq g f ≡ false → sight g p ≡ sight g q) (choices f atoms q)
