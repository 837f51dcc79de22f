-- The fields of requests, and what atoms see of them.
use Rattle.std.specs.Prelude.{ℕ, Bool, true, false, not, ◌&&◌, ◌==◌, List, Option, Some, None, ℤ}
use Rattle.hist_model.specs.Decisions.{attribute_of, dirfd_of, fstype_of, has_flag, is_descriptor, is_device, is_text, kind_eq}
use Rattle.hist_model.specs.Decisions.{lies_under, path_of, source_of, value_of}
use Rattle.std.specs.Prelude.{nat_lt}
use Rattle.hist_model.specs.Requests.{kind_of, low_32, major_of, minor_of}
use Rattle.hist_model.specs.declared.policy.Flag.{Flag}
use Rattle.hist_model.specs.declared.policy.Flag.TheVariants as flag
use Rattle.hist_model.specs.declared.request.Kind.{Kind}
use Rattle.hist_model.specs.declared.request.Request.{Request}
use Rattle.hist_model.specs.declared.request.Request.TheVariants.{Mknod}
use Rattle.policy_classes.specs.declared.atoms.Atom.{Atom}
use Rattle.policy_classes.specs.declared.atoms.Atom.TheVariants as atom
use Rattle.policy_classes.specs.declared.atoms.Field.{Field}
use Rattle.policy_classes.specs.declared.atoms.Field.TheVariants as field

-- the field that an atom looks at
abbrev pub field_of : Atom → Field
field_of (atom.Path text) = field.Path
field_of (atom.Under dir) = field.Path
field_of (atom.Kind kind) = field.Node
field_of (atom.Dev major minor) = field.Node
field_of atom.ShortDevice = field.Node
field_of (atom.Fstype text) = field.Fstype
field_of (atom.Source text) = field.Source
field_of (atom.Name text) = field.Name
field_of (atom.Value text) = field.Value
field_of (atom.Dirfd number) = field.Dirfd
field_of (atom.Set f) = field.Flag f
field_of (atom.Unset f) = field.Flag f

-- two flags are one
abbrev pub flag_eq : Flag → Flag → Bool
flag_eq (flag.Mount a) (flag.Mount b) = a == b
flag_eq (flag.Attribute a) (flag.Attribute b) = a == b
flag_eq _ _ = false

-- two fields are one
abbrev pub field_eq : Field → Field → Bool
field_eq field.Path field.Path = true
field_eq field.Node field.Node = true
field_eq field.Fstype field.Fstype = true
field_eq field.Source field.Source = true
field_eq field.Name field.Name = true
field_eq field.Value field.Value = true
field_eq field.Dirfd field.Dirfd = true
field_eq (field.Flag f) (field.Flag g) = flag_eq f g
field_eq _ _ = false

-- the atom looks at this field
abbrev pub is_of : Field → Atom → Bool
is_of f a = field_eq (field_of a) f

-- what is seen of one field: a text, the mode and the device number of a node, a descriptor, or whether a flag is set
pub data Sight : Type 0 where
  text : Option (List ℕ) → Sight
  node : Option (ℕ × ℕ) → Sight
  descriptor : Option ℤ → Sight
  flag_set : Bool → Sight

-- the mode and the device number of a node
abbrev pub node_of : Request → Option (ℕ × ℕ)
node_of (Mknod dirfd path mode dev) = Some (mode, dev)
node_of _ = None

-- what is seen of a field of a request
abbrev pub sight : Field → Request → Sight
sight field.Path q = text (path_of q)
sight field.Node q = node (node_of q)
sight field.Fstype q = text (fstype_of q)
sight field.Source q = text (source_of q)
sight field.Name q = text (attribute_of q)
sight field.Value q = text (value_of q)
sight field.Dirfd q = descriptor (dirfd_of q)
sight (field.Flag f) q = flag_set (has_flag q f)

abbrev pub is_kind : Option (ℕ × ℕ) → Kind → Bool
is_kind (Some (mode, dev)) kind = kind_eq (kind_of mode) kind
is_kind None kind = false

abbrev pub is_numbered : Option (ℕ × ℕ) → ℕ → ℕ → Bool
is_numbered (Some (mode, dev)) major minor =
    is_device (kind_of mode) && ((major_of (low_32 dev) == major) && (minor_of (low_32 dev) == minor))
is_numbered None major minor = false

abbrev pub is_short : Option (ℕ × ℕ) → Bool
is_short (Some (mode, dev)) = nat_lt dev 4294967296
is_short None = true

-- what is seen is as the atom asks
abbrev pub suits : Atom → Sight → Bool
suits (atom.Path t) (text seen) = is_text seen t
suits (atom.Under dir) (text seen) = lies_under seen dir
suits (atom.Kind kind) (node seen) = is_kind seen kind
suits (atom.Dev major minor) (node seen) = is_numbered seen major minor
suits atom.ShortDevice (node seen) = is_short seen
suits (atom.Fstype t) (text seen) = is_text seen t
suits (atom.Source t) (text seen) = is_text seen t
suits (atom.Name t) (text seen) = is_text seen t
suits (atom.Value t) (text seen) = is_text seen t
suits (atom.Dirfd number) (descriptor seen) = is_descriptor seen number
suits (atom.Set f) (flag_set seen) = seen
suits (atom.Unset f) (flag_set seen) = not seen
suits _ _ = false
