-- How the classes of calls are found: the fields of a request get values, one after another, and each time what is decided is dropped.
use Rattle.std.specs.Prelude.{ℕ, zero, suc, ◌+◌, Bool, ◌&&◌, not, if◌then◌else◌, List, [], ◌∷◌, ◌++◌, Option, Some, None, ℤ}
use Rattle.std.specs.List.{filter, flat_map, list_any, sum_by}
use Rattle.hist_model.specs.Decisions.{covers}
use Rattle.hist_model.specs.declared.policy.Rule.{Rule}
use Rattle.hist_model.specs.declared.request.Request.{Request}
use Rattle.policy_classes.specs.declared.atoms.Atom.{Atom}
use Rattle.policy_classes.specs.declared.atoms.Field.{Field}
use Rattle.policy_classes.specs.Atoms.{all_hold, atoms_of_all, holds}
use Rattle.policy_classes.specs.Choices.{choices}
use Rattle.policy_classes.specs.Fields.{field_of, is_of}

-- a rule, by its place, that decides where these atoms hold and no rule before it decides
pub record Waiting : Type 0 where
  pub place : ℕ
  pub atoms : List Atom

-- the rules for a call, where the first of all has place n
abbrev pub waiting_from : ℕ → List Rule → ℤ → List Waiting
waiting_from n [] nr = []
waiting_from n (rule ∷ rules) nr =
    if covers rule.calls nr then record { place = n; atoms = atoms_of_all rule.conds } ∷ waiting_from (n + 1) rules nr
    else waiting_from (n + 1) rules nr

-- the place of the first of them of which all atoms hold, and where there is none this
abbrev pub place_among : ℕ → List Waiting → Request → ℕ
place_among none [] q = none
place_among none (c ∷ cs) q = if all_hold c.atoms q then c.place else place_among none cs q

-- ---- one field is decided

-- an atom of this field doesn't hold
abbrev pub fails_in : Field → Request → List Atom → Bool
fails_in f q atoms = list_any (λ a. is_of f a && not (holds a q)) atoms

-- the atoms of the other fields
abbrev pub others : Field → List Atom → List Atom
others f atoms = filter (λ a. not (is_of f a)) atoms

-- a rule without atoms decides, and those behind it never do
abbrev pub put_before : ℕ → List Atom → List Waiting → List Waiting
put_before place [] cs = record { place = place; atoms = [] } ∷ []
put_before place (a ∷ atoms) cs = record { place = place; atoms = a ∷ atoms } ∷ cs

-- what is left of the rules where the field is as in this request
abbrev pub left_of : Field → Request → List Waiting → List Waiting
left_of f q [] = []
left_of f q (c ∷ cs) = if fails_in f q c.atoms then left_of f q cs else put_before c.place (others f c.atoms) (left_of f q cs)

-- ---- the search

abbrev pub first_field : List Atom → Option Field
first_field [] = None
first_field (a ∷ atoms) = Some (field_of a)

-- the field on which it depends whether the first rule decides
abbrev pub undecided : List Waiting → Option Field
undecided [] = None
undecided (c ∷ cs) = first_field c.atoms

abbrev pub or_field : Option Field → Option Field → Option Field
or_field (Some f) o = Some f
or_field None o = o

abbrev pub next_field : List Waiting → List Waiting → Option Field
next_field old new = or_field (undecided old) (undecided new)

-- the place of the first rule
abbrev pub first_place : ℕ → List Waiting → ℕ
first_place none [] = none
first_place none (c ∷ cs) = c.place

-- the atoms that are left of the rules of both policies
abbrev pub atoms_left : List Waiting → List Waiting → List Atom
atoms_left old new = flat_map (λ (c : Waiting). c.atoms) old ++ flat_map (λ (c : Waiting). c.atoms) new

-- ---- how many places the search looks at

abbrev pub looked_by : Option Field → (Field → ℕ) → ℕ
looked_by (Some f) later = 1 + later f
looked_by None later = 1

-- a place is a request of which some fields are decided, with what is left of the rules of both policies; from this one on, where
-- so many fields at most are decided one after another
unfoldable pub looked : ℕ → Request → List Waiting → List Waiting → ℕ
looked zero q old new = 1
looked (suc n) q old new =
    looked_by (next_field old new) (λ f. sum_by (λ p. looked n p (left_of f p old) (left_of f p new)) (choices f (atoms_left old new) q))
