-- Marks of texts, by which most rules that fail are told quickly: a text with another mark is another text.
use Rattle.std.specs.Prelude.{ℕ, ◌+◌, ◌*◌, ◌%◌, Bool, true, false, ◌==◌, List, [], ◌∷◌, Option, Some, None}
use Rattle.std.specs.Option.{option_map}
use Rattle.hist_model.specs.Decisions.{attribute_of, fstype_of, path_of, source_of, value_of}
use Rattle.hist_model.specs.declared.request.Request.{Request}
use Rattle.policy_classes.specs.declared.atoms.Atom.{Atom}
use Rattle.policy_classes.specs.declared.atoms.Field.{Field}
use Rattle.policy_classes.specs.declared.atoms.Field.TheVariants as field
use Rattle.policy_classes.specs.Chosen.{text_asked}

abbrev pub mark_with : ℕ → ℕ → ℕ
mark_with mark b = mark % 4294967296 * 257 + b

abbrev pub mark_from : ℕ → List ℕ → ℕ
mark_from mark [] = mark
mark_from mark (b ∷ bs) = mark_from (mark_with mark b) bs

-- the mark of a text
unfoldable pub mark_of : List ℕ → ℕ
mark_of t = mark_from 0 t

abbrev pub or_mark : Option (List ℕ) → Option ℕ → Option ℕ
or_mark (Some t) o = Some (mark_of t)
or_mark None o = o

-- the mark of the first text for which one of the atoms asks in a field
abbrev pub asked_mark : Field → List Atom → Option ℕ
asked_mark f [] = None
asked_mark f (a ∷ atoms) = or_mark (text_asked f a) (asked_mark f atoms)

-- the text of a request in a field
abbrev pub text_at : Field → Request → Option (List ℕ)
text_at field.Path q = path_of q
text_at field.Fstype q = fstype_of q
text_at field.Source q = source_of q
text_at field.Name q = attribute_of q
text_at field.Value q = value_of q
text_at f q = None

-- its mark
abbrev pub mark_at : Field → Request → Option ℕ
mark_at f q = option_map mark_of (text_at f q)

-- a text of the second mark may be one for which an atom asks, whose mark is the first
abbrev pub may_be : Option ℕ → Option ℕ → Bool
may_be None seen = true
may_be (Some m) None = false
may_be (Some m) (Some n) = m == n
