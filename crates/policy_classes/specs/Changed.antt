-- A request with another value in one field.
use Rattle.std.specs.Prelude.{ℕ, Bool, true, false, List, Some, ℤ}
use Rattle.hist_model.specs.declared.request.Request.{Request}
use Rattle.hist_model.specs.declared.request.Request.TheVariants.{Mknod, Mount, SetXattr, OpenAt}
use Rattle.policy_classes.specs.declared.atoms.Field.{Field}
use Rattle.policy_classes.specs.declared.atoms.Field.TheVariants as field

-- with another text, where it has one there
abbrev pub with_text : Field → List ℕ → Request → Request
with_text field.Path p (Mknod dirfd path mode dev) = Mknod dirfd p mode dev
with_text field.Path p (Mount source target fstype options via flags shift) = Mount source p fstype options via flags shift
with_text field.Path p (SetXattr path name value flags) = SetXattr p name value flags
with_text field.Path p (OpenAt dirfd path flags) = OpenAt dirfd p flags
with_text field.Fstype t (Mount source target fstype options via flags shift) = Mount source target t options via flags shift
with_text field.Source t (Mount source target fstype options via flags shift) = Mount t target fstype options via flags shift
with_text field.Name t (SetXattr path name value flags) = SetXattr path t value flags
with_text field.Value t (SetXattr path name value flags) = SetXattr path name t flags
with_text f t q = q

-- whether it has a text there
abbrev pub has_text : Field → Request → Bool
has_text field.Path (Mknod dirfd path mode dev) = true
has_text field.Path (Mount source target fstype options via flags shift) = true
has_text field.Path (SetXattr path name value flags) = true
has_text field.Path (OpenAt dirfd path flags) = true
has_text field.Fstype (Mount source target fstype options via flags shift) = true
has_text field.Source (Mount source target fstype options via flags shift) = true
has_text field.Name (SetXattr path name value flags) = true
has_text field.Value (SetXattr path name value flags) = true
has_text f q = false

-- whether it has the descriptor of a directory
abbrev pub has_descriptor : Request → Bool
has_descriptor (Mknod (Some fd) path mode dev) = true
has_descriptor (OpenAt dirfd path flags) = true
has_descriptor q = false

-- with another mode and device number
abbrev pub with_node : ℕ × ℕ → Request → Request
with_node n (Mknod dirfd path mode dev) = Mknod dirfd path n.0 n.1
with_node n q = q

-- from another directory
abbrev pub with_descriptor : ℤ → Request → Request
with_descriptor d (Mknod dirfd path mode dev) = Mknod (Some d) path mode dev
with_descriptor d (OpenAt dirfd path flags) = OpenAt d path flags
with_descriptor d q = q

-- with other flags
abbrev pub with_mount_flags : ℕ → Request → Request
with_mount_flags n (Mount source target fstype options via flags shift) = Mount source target fstype options via n shift
with_mount_flags n q = q

abbrev pub with_setxattr_flags : ℕ → Request → Request
with_setxattr_flags n (SetXattr path name value flags) = SetXattr path name value n
with_setxattr_flags n q = q
