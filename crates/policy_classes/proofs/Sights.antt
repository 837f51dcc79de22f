-- Whether an atom holds depends on what it sees of its field.
-- By cases on the atom, and on the request where the atom looks at a node.
use Rattle.std.proofs.Common.{◌≡◌, refl}
use Rattle.hist_model.specs.declared.request.Request.{Request}
use Rattle.hist_model.specs.declared.request.Request.TheVariants.{Mknod}
use Rattle.policy_classes.specs.declared.atoms.Atom.{Atom}
use Rattle.policy_classes.specs.declared.atoms.Atom.TheVariants as atom
use Rattle.policy_classes.specs.Atoms.{holds}
use Rattle.policy_classes.specs.Fields.{field_of, sight, suits}

pub one_field_counts : (a : Atom) (q : Request) → holds a q ≡ suits a (sight (field_of a) q)
one_field_counts (atom.Path text) q = refl
one_field_counts (atom.Under dir) q = refl
one_field_counts (atom.Kind kind) (Mknod dirfd path mode dev) = refl
one_field_counts (atom.Kind kind) q = refl
one_field_counts (atom.Dev major minor) (Mknod dirfd path mode dev) = refl
one_field_counts (atom.Dev major minor) q = refl
one_field_counts atom.ShortDevice (Mknod dirfd path mode dev) = refl
one_field_counts atom.ShortDevice q = refl
one_field_counts (atom.Fstype text) q = refl
one_field_counts (atom.Source text) q = refl
one_field_counts (atom.Name text) q = refl
one_field_counts (atom.Value text) q = refl
one_field_counts (atom.Dirfd number) q = refl
one_field_counts (atom.Set f) q = refl
one_field_counts (atom.Unset f) q = refl
