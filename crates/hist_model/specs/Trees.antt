-- A tree of nodes, their extended attributes and the mounts on them: path_resolution(7), mount(2), xattr(7).
-- The rows are listed the newest first. The ordinal of a node is the length of the list of nodes below its row.
use Rattle.std.specs.Prelude.{ℕ, zero, suc, ◌/◌, ◌%◌, Bool, true, false, ◌&&◌, if◌then◌else◌, ◌==◌, nat_lt, List, [], ◌∷◌, length}
use Rattle.std.specs.Prelude.{Option, Some, None, bytes_eq}
use Rattle.hist_model.specs.Look.{is_place}
use Rattle.hist_model.specs.declared.request.NodeRef.{NodeRef}
use Rattle.hist_model.specs.declared.request.Node.{Node}
use Rattle.hist_model.specs.declared.request.Node.TheVariants.{Dir}
use Rattle.hist_model.specs.declared.request.MountRow.{MountRow}
use Rattle.hist_model.specs.declared.script.TreeLine.{TreeLine}
use Rattle.hist_model.specs.declared.script.TreeLine.TheVariants.{Made, Attr}
use Rattle.hist_model.specs.declared.tree.NodeRow.{NodeRow}
use Rattle.hist_model.specs.declared.tree.AttrRow.{AttrRow}
use Rattle.hist_model.specs.declared.tree.Mounted.{Mounted}

-- the nodes, the attributes and the mounts, each the newest first
pub record Tree : Type 0 where
  pub nodes : List NodeRow
  pub attrs : List AttrRow
  pub mounts : List Mounted

-- the ordinal of a node, if there is one
abbrev pub ordinal_of : Option NodeRef → Option ℕ
ordinal_of (Some n) = Some n.ordinal
ordinal_of None = None

-- the row of the node with this ordinal
unfoldable pub row_in : List NodeRow → ℕ → Option NodeRow
row_in [] n = None
row_in (r ∷ rs) n = if n == length rs then Some r else row_in rs n

abbrev pub node_of : Option NodeRow → Option Node
node_of (Some r) = Some r.node
node_of None = None

-- the node with this ordinal
abbrev pub node_at : Tree → ℕ → Option Node
node_at T n = node_of (row_in T.nodes n)

abbrev pub is_dir : Option Node → Bool
is_dir (Some Dir) = true
is_dir _ = false

-- the node with this ordinal is a directory
abbrev pub is_dir_at : Tree → ℕ → Bool
is_dir_at T n = is_dir (node_at T n)

-- the row lies in this directory under this name
abbrev pub is_entry : NodeRow → ℕ → List ℕ → Bool
is_entry r dir name = is_place r.parent dir && bytes_eq r.name name

unfoldable pub entry_in : List NodeRow → ℕ → List ℕ → Option ℕ
entry_in [] dir name = None
entry_in (r ∷ rs) dir name = if is_entry r dir name then Some (length rs) else entry_in rs dir name

-- the entry of a directory under a name
abbrev pub entry : Tree → ℕ → List ℕ → Option ℕ
entry T dir name = entry_in T.nodes dir name

-- the row is this node's attribute of this name
abbrev pub is_attr : AttrRow → ℕ → List ℕ → Bool
is_attr r on name = (r.on == on) && bytes_eq r.name name

unfoldable pub attr_in : List AttrRow → ℕ → List ℕ → Option (List ℕ)
attr_in [] on name = None
attr_in (r ∷ rs) on name = if is_attr r on name then Some r.value else attr_in rs on name

-- the value of a node's attribute
abbrev pub attr : Tree → ℕ → List ℕ → Option (List ℕ)
attr T on name = attr_in T.attrs on name

-- the root of the newest mount on a node
unfoldable pub mount_on : List Mounted → ℕ → Option ℕ
mount_on [] n = None
mount_on (m ∷ ms) n = if m.target == n then Some m.root else mount_on ms n

-- the node itself, or what lies over the root of a mount on it
abbrev pub covered : (ℕ → ℕ) → ℕ → Option ℕ → ℕ
covered over n None = n
covered over n (Some root) = over root

-- what is seen at a node through at most so many mounts, one on the root of another
unfoldable pub top_through : ℕ → List Mounted → ℕ → ℕ
top_through zero ms n = n
top_through (suc k) ms n = covered (top_through k ms) n (mount_on ms n)

-- what is seen at a node: the root of the newest mount on it, repeatedly; each is newer than the one below it
abbrev pub top : Tree → ℕ → ℕ
top T n = top_through (length T.mounts) T.mounts n

-- the directory that a mount with this root covers
unfoldable pub target_of : List Mounted → ℕ → Option ℕ
target_of [] n = None
target_of (m ∷ ms) n = if m.root == n then Some m.target else target_of ms n

abbrev pub parent_of : Option NodeRow → Option ℕ
parent_of (Some r) = r.parent
parent_of None = None

abbrev pub uncovered : (ℕ → ℕ) → ℕ → Option ℕ → ℕ
uncovered above n None = n
uncovered above n (Some target) = above target

-- the parent, or at the root of a mount what lies above the directory that it covers
abbrev pub above_row : (ℕ → ℕ) → List Mounted → ℕ → Option ℕ → ℕ
above_row above ms n (Some parent) = parent
above_row above ms n None = uncovered above n (target_of ms n)

-- what `..` leads to, out of at most so many mounts
unfoldable pub up_through : ℕ → Tree → ℕ → ℕ → ℕ
up_through zero T root n = n
up_through (suc k) T root n = if n == root then root else above_row (up_through k T root) T.mounts n (parent_of (row_in T.nodes n))

-- what `..` leads to: the container's root at itself, the parent of a node,
-- and at the root of a mount what it leads to from the directory that the mount covers
abbrev pub up : Tree → ℕ → ℕ → ℕ
up T root n = up_through (suc (length T.mounts)) T root n

-- with one more node in a directory
abbrev pub with_node : Tree → ℕ → List ℕ → Node → Tree
with_node T dir name node = record T { nodes = record { parent = Some dir; name = name; node = node } ∷ T.nodes }

-- with one more mount, and its root, an empty directory
abbrev pub with_mount : Tree → ℕ → MountRow → Tree
with_mount T dir row = record T {
  nodes = record { parent = None; name = []; node = Dir } ∷ T.nodes;
  mounts = record { target = dir; root = length T.nodes; row = row } ∷ T.mounts;
}

-- the rows with another value in that of this attribute
unfoldable pub attr_replaced : List AttrRow → ℕ → List ℕ → List ℕ → List AttrRow
attr_replaced [] on name value = []
attr_replaced (r ∷ rs) on name value = if is_attr r on name then record r { value = value } ∷ rs else r ∷ attr_replaced rs on name value

abbrev pub attr_put : List AttrRow → ℕ → List ℕ → List ℕ → Option (List ℕ) → List AttrRow
attr_put rs on name value None = record { on = on; name = name; value = value } ∷ rs
attr_put rs on name value (Some old) = attr_replaced rs on name value

-- with this value of an attribute
abbrev pub with_attr : Tree → ℕ → List ℕ → List ℕ → Tree
with_attr T on name value = record T { attrs = attr_put T.attrs on name value (attr T on name) }

-- the flags that setxattr(2) knows: XATTR_CREATE is 1, XATTR_REPLACE is 2
abbrev pub are_attr_flags : ℕ → Bool
are_attr_flags flags = nat_lt flags 4

abbrev pub creates_attr : ℕ → Bool
creates_attr flags = flags % 2 == 1

abbrev pub replaces_attr : ℕ → Bool
replaces_attr flags = (flags / 2) % 2 == 1

-- `/` alone
abbrev pub bare_tree : Tree
bare_tree = record { nodes = record { parent = Some 0; name = []; node = Dir } ∷ []; attrs = []; mounts = [] }

-- with what a line of a script states
abbrev pub with_line : Tree → TreeLine → Tree
with_line T (Made parent name node) = with_node T parent.ordinal name node
with_line T (Attr on name value) = with_attr T on.ordinal name value

-- with these lines, in order
unfoldable pub with_lines : Tree → List TreeLine → Tree
with_lines T [] = T
with_lines T (l ∷ ls) = with_lines (with_line T l) ls

-- the tree that a script states
abbrev pub stated : List TreeLine → Tree
stated lines = with_lines bare_tree lines
