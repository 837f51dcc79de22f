-- Policies whose classes can be told: each call that a rule names has a name of its own, and each flag is one bit.
use Rattle.std.specs.Prelude.{◌≡◌, true, List, ◌∷◌, ◌++◌, All, ⊤, ℤ, pos, if◌then◌else◌}
use Rattle.std.specs.List.{flat_map, list_all}
use Rattle.hist_model.specs.Decisions.{is_among, named_calls}
use Rattle.hist_model.specs.declared.policy.Calls.{Calls}
use Rattle.hist_model.specs.declared.policy.Calls.TheVariants.{Named, Other as OtherCalls}
use Rattle.hist_model.specs.declared.policy.Rule.{Rule}
use Rattle.policy_classes.specs.declared.atoms.Atom.{Atom}
use Rattle.policy_classes.specs.Atoms.{atoms_of_all}
use Rattle.policy_classes.specs.Choices.{IsPlainAtom}

-- each number is one of a call that has a name
abbrev pub AreKnown : Calls → Type 0
AreKnown (Named numbers) = list_all (is_among named_calls) numbers ≡ true
AreKnown OtherCalls = ⊤

pub record IsPlainRule (rule : Rule) : Type 0 where
  pub calls : AreKnown rule.calls
  pub atoms : All IsPlainAtom (atoms_of_all rule.conds)

abbrev pub atoms_of_rules : List Rule → List Atom
atoms_of_rules rules = flat_map (λ (rule : Rule). atoms_of_all rule.conds) rules

-- the atoms of two policies
abbrev pub all_atoms : List Rule → List Rule → List Atom
all_atoms old new = atoms_of_rules old ++ atoms_of_rules new

-- ---- calls

-- the call whose rules are those of a number: itself, or for one without a name read(2), which has none either
abbrev pub standing_call : ℤ → ℤ
standing_call nr = if is_among named_calls nr then nr else pos 0

-- the calls that stand for all
abbrev pub standing_calls : List ℤ
standing_calls = pos 0 ∷ named_calls
