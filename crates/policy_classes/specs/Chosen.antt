-- How the values of a field are chosen: those that atoms ask for, and the least of those that no atom tells apart.
use Rattle.std.specs.Prelude.{ℕ, ◌+◌, Bool, ◌&&◌, not, List, [], ◌∷◌, ◌++◌, Option, Some, None, ℤ, pos, negsuc, map}
use Rattle.std.specs.Prelude.{bytes_eq, nat_lt, if◌then◌else◌}
use Rattle.std.specs.List.{filter, filter_map, flat_map, list_any}
use Rattle.std.specs.Option.{option_to_list}
use Rattle.std.specs.Ordering.{int_eq}
use Rattle.policy_classes.specs.declared.atoms.Atom.{Atom}
use Rattle.policy_classes.specs.declared.atoms.Atom.TheVariants as atom
use Rattle.policy_classes.specs.declared.atoms.Field.{Field}
use Rattle.policy_classes.specs.declared.atoms.Field.TheVariants as field
use Rattle.policy_classes.specs.declared.words.Limit.{Limit}
use Rattle.policy_classes.specs.Allowed.{is_allowed, limit_of, plain_of}
use Rattle.policy_classes.specs.Asked.{is_descriptor_number}
use Rattle.policy_classes.specs.Fresh.{fresh, least}
use Rattle.policy_classes.specs.Order.{descriptor_rank}

-- ---- each of them once

-- added, unless it is there
abbrev pub added : {A : Type 0} → (A → A → Bool) → List A → A → List A
added same xs x = if list_any (λ y. same x y) xs then xs else xs ++ x ∷ []

-- these, and each of the others once
abbrev pub once_behind : {A : Type 0} → (A → A → Bool) → List A → List A → List A
once_behind same seen [] = seen
once_behind same seen (x ∷ xs) = once_behind same (added same seen x) xs

-- ---- texts

-- the text that an atom asks for in a field
abbrev pub text_asked : Field → Atom → Option (List ℕ)
text_asked field.Path (atom.Path t) = Some t
text_asked field.Fstype (atom.Fstype t) = Some t
text_asked field.Source (atom.Source t) = Some t
text_asked field.Name (atom.Name t) = Some t
text_asked field.Value (atom.Value t) = Some t
text_asked _ _ = None

-- the directory below which it asks for a path
abbrev pub dir_asked : Field → Atom → Option (List ℕ)
dir_asked field.Path (atom.Under dir) = Some dir
dir_asked _ _ = None

-- those of all atoms, each once
abbrev pub texts_asked : Field → List Atom → List (List ℕ)
texts_asked f atoms = once_behind bytes_eq [] (filter_map (text_asked f) atoms)

abbrev pub dirs_asked : Field → List Atom → List (List ℕ)
dirs_asked f atoms = once_behind bytes_eq [] (filter_map (dir_asked f) atoms)

-- a fresh text there, if there is one
abbrev pub fresh_at : Limit → List ℕ → List (List ℕ) → List (List ℕ) → Option (List ℕ) → List (List ℕ)
fresh_at limit plain asked dirs at = option_to_list (fresh limit plain asked dirs at)

-- those that are asked for and that calls may have, a fresh one below no directory, and one just below each of these directories
abbrev pub text_values : Limit → List ℕ → List (List ℕ) → List (List ℕ) → List (List ℕ)
text_values limit plain asked dirs =
    filter (is_allowed limit) asked
    ++ (fresh_at limit plain asked dirs None ++ flat_map (λ d. fresh_at limit plain asked dirs (Some d)) dirs)

abbrev pub field_texts : Field → List Atom → List (List ℕ)
field_texts f atoms = text_values (limit_of f) (plain_of f) (texts_asked f atoms) (dirs_asked f atoms)

-- ---- descriptors

abbrev pub descriptor_asked : Atom → Option ℤ
descriptor_asked (atom.Dirfd number) = Some number
descriptor_asked _ = None

abbrev pub descriptors_asked : List Atom → List ℤ
descriptors_asked atoms = once_behind int_eq [] (filter_map descriptor_asked atoms)

-- the next descriptor of the same sign
abbrev pub next_descriptor : ℤ → ℤ
next_descriptor (pos n) = pos (n + 1)
next_descriptor (negsuc n) = negsuc (n + 1)

-- the least descriptor for which no atom asks is the first of its sign, or next to one for which an atom asks
abbrev pub descriptor_candidates : List ℤ → List ℤ
descriptor_candidates asked = negsuc 99 ∷ pos 0 ∷ negsuc 0 ∷ map next_descriptor asked

-- calls may have the descriptor, and no atom asks for it
abbrev pub is_fresh_descriptor : List ℤ → ℤ → Bool
is_fresh_descriptor asked d = is_descriptor_number d && not (list_any (λ n. int_eq d n) asked)

abbrev pub comes_first : ℤ → ℤ → Bool
comes_first d e = nat_lt (descriptor_rank d) (descriptor_rank e)

abbrev pub fresh_descriptor : List ℤ → Option ℤ
fresh_descriptor asked = least comes_first (is_fresh_descriptor asked) None (descriptor_candidates asked)

-- those that are asked for and that calls may have, and the least other one
abbrev pub descriptor_values : List Atom → List ℤ
descriptor_values atoms =
    filter is_descriptor_number (descriptors_asked atoms) ++ option_to_list (fresh_descriptor (descriptors_asked atoms))
