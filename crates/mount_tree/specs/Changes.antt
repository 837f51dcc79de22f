-- What contracts see of a tree, and what its changes do.
use Rattle.std.specs.Prelude.{◌≡◌, ℕ, ◌≤◌, ◌+◌, true, false, List, length, Option, Some, None, is_some, Result, Ok, Err}
use Rattle.hist_model.specs.Trees.{Tree, entry, attr, with_node, with_attr, are_attr_flags, creates_attr, replaces_attr}
use Rattle.hist_model.specs.declared.request.Node.{Node}
use Rattle.hist_model.specs.declared.request.NodeRef.{NodeRef}
use Rattle.sys_abi.specs.declared.memory.OrNoMemory.{OrNoMemory}
use Rattle.sys_abi.specs.declared.memory.OrNoMemory.TheVariants.{Refused, NoMemory}
use Rattle.mount_tree.specs.declared.errors.Exists.{Exists}
use Rattle.mount_tree.specs.declared.mounts.NewMount.{NewMount}
use Rattle.hist_model.specs.declared.request.MountRow.{MountRow}
use Rattle.mount_tree.specs.declared.errors.AttrError.{AttrError}
use Rattle.mount_tree.specs.declared.errors.AttrError.TheVariants as attr_error

-- the tree, and one more than the bytes for which the next change has room, or 0
pub record Seen : Type 0 where
  pub tree : Tree
  pub spare : ℕ

-- a node is made where the directory has no such entry
abbrev pub NodeMade : Seen → Seen → ℕ → List ℕ → Node → Result NodeRef (OrNoMemory Exists) → Type 0
NodeMade old new dir name node (Ok n) =
    (entry old.tree dir name ≡ None) × (n.ordinal ≡ length old.tree.nodes) × (new.tree ≡ with_node old.tree dir name node)
NodeMade old new dir name node (Err (Refused e)) = (is_some (entry old.tree dir name) ≡ true) × (new ≡ old)
NodeMade old new dir name node (Err NoMemory) = (entry old.tree dir name ≡ None) × (old.spare ≤ length name) × (new ≡ old)

-- the flags allow it to set an attribute that has this value, or none
abbrev pub AllowsAttr : ℕ → Option (List ℕ) → Type 0
AllowsAttr flags (Some value) = creates_attr flags ≡ false
AllowsAttr flags None = replaces_attr flags ≡ false

-- an attribute is set where its flags allow it
abbrev pub AttrSet : Seen → Seen → ℕ → List ℕ → List ℕ → ℕ → Result (Unit {0}) AttrError → Type 0
AttrSet old new on name value flags (Ok done) =
    (are_attr_flags flags ≡ true) × (AllowsAttr flags (attr old.tree on name)) × (new.tree ≡ with_attr old.tree on name value)
AttrSet old new on name value flags (Err attr_error.BadFlags) = (are_attr_flags flags ≡ false) × (new ≡ old)
AttrSet old new on name value flags (Err attr_error.Exists) =
    (are_attr_flags flags ≡ true) × (creates_attr flags ≡ true) × (is_some (attr old.tree on name) ≡ true) × (new ≡ old)
AttrSet old new on name value flags (Err attr_error.Absent) =
    (are_attr_flags flags ≡ true) × (replaces_attr flags ≡ true) × (is_some (attr old.tree on name) ≡ false) × (new ≡ old)
AttrSet old new on name value flags (Err attr_error.NoMemory) =
    (are_attr_flags flags ≡ true) × (AllowsAttr flags (attr old.tree on name)) × (old.spare ≤ length name + length value) × (new ≡ old)

-- what is kept of a mount that is made
abbrev pub row_of : NewMount → MountRow
row_of m =
    record { source = m.source.now; fstype = m.fstype.now; flags = m.flags; options = m.options.now; via = m.via.now; shift = m.shift }

-- the bytes of a row's texts together
abbrev pub row_length : MountRow → ℕ
row_length r = length r.source + length r.fstype + length r.options + length r.via
