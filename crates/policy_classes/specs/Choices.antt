-- A request with another value in one field.
use Rattle.std.specs.Prelude.{◌≡◌, ℕ, ◌<◌, ◌^◌, List, [], ◌∷◌, map, bit_and, bit_or, if◌then◌else◌, ⊤}
use Rattle.std.specs.Int.{w32, w64, bit_at, bit_not}
use Rattle.hist_model.specs.declared.policy.Flag.{Flag}
use Rattle.hist_model.specs.declared.policy.Flag.TheVariants as flag
use Rattle.hist_model.specs.declared.request.Request.{Request}
use Rattle.hist_model.specs.declared.request.Request.TheVariants.{Mknod, Mount, SetXattr}
use Rattle.policy_classes.specs.declared.atoms.Atom.{Atom}
use Rattle.policy_classes.specs.declared.atoms.Field.{Field}
use Rattle.policy_classes.specs.declared.atoms.Field.TheVariants as field
use Rattle.policy_classes.specs.Changed.{has_descriptor, has_text, with_descriptor, with_node, with_text}
use Rattle.policy_classes.specs.Chosen.{descriptor_values, field_texts}
use Rattle.policy_classes.specs.Fields.{field_of}
use Rattle.policy_classes.specs.Nodes.{node_values}

-- the number is one of the first powers of two
abbrev pub IsPower : ℕ → ℕ → Type 0
IsPower powers bit = (k : ℕ) × (k < powers) × (bit ≡ 2 ^ k)

-- a flag of mount(2) or setxattr(2) is one bit. Bit 31 of a mount's flags is none: without it these hold no magic number (mount(2))
abbrev pub IsOneFlag : Flag → Type 0
IsOneFlag (flag.Mount bit) = IsPower 31 bit
IsOneFlag (flag.Attribute bit) = IsPower 32 bit

-- a field that is a flag is one bit
abbrev pub IsOneField : Field → Type 0
IsOneField (field.Flag f) = IsOneFlag f
IsOneField _ = ⊤

-- an atom on a flag looks at one bit
abbrev pub IsPlainAtom : Atom → Type 0
IsPlainAtom a = IsOneField (field_of a)

-- the choices for a field that is no text
abbrev pub other_choices : Field → List Atom → Request → List Request
other_choices field.Node atoms (Mknod dirfd path mode dev) = map (λ n. with_node n (Mknod dirfd path mode dev)) (node_values atoms)
other_choices field.Dirfd atoms q = if has_descriptor q then map (λ d. with_descriptor d q) (descriptor_values atoms) else q ∷ []
other_choices (field.Flag (flag.Mount bit)) atoms (Mount source target fstype options via flags shift) =
    Mount source target fstype options via (bit_or flags bit) shift
    ∷ Mount source target fstype options via (bit_and flags (bit_not w64 bit)) shift ∷ []
other_choices (field.Flag (flag.Attribute bit)) atoms (SetXattr path name value flags) =
    SetXattr path name value (bit_or flags bit) ∷ SetXattr path name value (bit_and flags (bit_not w32 bit)) ∷ []
other_choices f atoms q = q ∷ []

-- the requests that arise from one by giving the field each value that these atoms tell apart; one that hasn't the field stays
abbrev pub choices : Field → List Atom → Request → List Request
choices f atoms q = if has_text f q then map (λ t. with_text f t q) (field_texts f atoms) else other_choices f atoms q

-- bit 31 of a mount's flags isn't set
abbrev pub HasNoMagic : Request → Type 0
HasNoMagic (Mount source target fstype options via flags shift) = bit_at flags 31 ≡ 0
HasNoMagic _ = ⊤
