-- Conditions in atoms, each of which looks at one field of a request.
use Rattle.std.specs.Prelude.{Bool, not, List, [], ◌∷◌, ◌++◌, map}
use Rattle.std.specs.List.{flat_map, list_all}
use Rattle.hist_model.specs.Decisions.{asks_device, asks_kind, attribute_of, dirfd_of, fstype_of, has_flag, has_short_device}
use Rattle.hist_model.specs.Decisions.{is_descriptor, is_text, lies_under, path_of, source_of, value_of}
use Rattle.hist_model.specs.declared.policy.Cond.{Cond}
use Rattle.hist_model.specs.declared.policy.Cond.TheVariants as cond
use Rattle.hist_model.specs.declared.policy.Flag.TheVariants as flag
use Rattle.hist_model.specs.declared.policy.Rule.{Rule}
use Rattle.hist_model.specs.declared.request.Request.{Request}
use Rattle.policy_classes.specs.declared.atoms.Atom.{Atom}
use Rattle.policy_classes.specs.declared.atoms.Atom.TheVariants as atom

-- the request is as the atom asks
abbrev pub holds : Atom → Request → Bool
holds (atom.Path text) q = is_text (path_of q) text
holds (atom.Under dir) q = lies_under (path_of q) dir
holds (atom.Kind kind) q = asks_kind q kind
holds (atom.Dev major minor) q = asks_device q major minor
holds atom.ShortDevice q = has_short_device q
holds (atom.Fstype text) q = is_text (fstype_of q) text
holds (atom.Source text) q = is_text (source_of q) text
holds (atom.Name text) q = is_text (attribute_of q) text
holds (atom.Value text) q = is_text (value_of q) text
holds (atom.Dirfd number) q = is_descriptor (dirfd_of q) number
holds (atom.Set f) q = has_flag q f
holds (atom.Unset f) q = not (has_flag q f)

-- each of them holds
abbrev pub all_hold : List Atom → Request → Bool
all_hold atoms q = list_all (λ a. holds a q) atoms

-- a condition in atoms; MS_REMOUNT, MS_BIND and MS_MOVE are 32, 4096 and 8192
abbrev pub atoms_of : Cond → List Atom
atoms_of (cond.Path text) = atom.Path text ∷ []
atoms_of (cond.Under dir) = atom.Under dir ∷ []
atoms_of (cond.Kind kind) = atom.Kind kind ∷ []
atoms_of (cond.Dev major minor) = atom.Dev major minor ∷ []
atoms_of (cond.Fstype text) = atom.Fstype text ∷ []
atoms_of (cond.Source text) = atom.Source text ∷ []
atoms_of (cond.Name text) = atom.Name text ∷ []
atoms_of (cond.Value text) = atom.Value text ∷ []
atoms_of (cond.Dirfd number) = atom.Dirfd number ∷ []
atoms_of (cond.Flags all none) = map atom.Set all ++ map atom.Unset none
atoms_of cond.ShortDevice = atom.ShortDevice ∷ []
atoms_of cond.PlainFlags = atom.Unset (flag.Mount 32) ∷ atom.Unset (flag.Mount 4096) ∷ atom.Unset (flag.Mount 8192) ∷ []

-- all conditions in atoms
abbrev pub atoms_of_all : List Cond → List Atom
atoms_of_all conds = flat_map atoms_of conds

-- the atoms of a rule
abbrev pub atoms_in : Rule → List Atom
atoms_in rule = atoms_of_all rule.conds
