-- The key of a tree: of each row its parts, one after another. A node is told by a number, its device's numbers, and its target.
use Rattle.std.specs.Prelude.{ℕ, List, [], ◌++◌, reverse}
use Rattle.hist_model.specs.Trees.{Tree}
use Rattle.hist_model.specs.declared.request.Node.{Node}
use Rattle.hist_model.specs.declared.request.Node.TheVariants.{Blk, Chr, Dir, Fifo, Link, Reg, Sock}
use Rattle.hist_model.specs.declared.tree.AttrRow.{AttrRow}
use Rattle.hist_model.specs.declared.tree.Mounted.{Mounted}
use Rattle.hist_model.specs.declared.tree.NodeRow.{NodeRow}
use Rattle.key_bytes.specs.Parts.{flag_part, list_part, number_part, option_part, text_part}

abbrev pub kind_of : Node → ℕ
kind_of Dir = 0
kind_of Reg = 1
kind_of Fifo = 2
kind_of Sock = 3
kind_of (Link target) = 4
kind_of (Chr major minor) = 5
kind_of (Blk major minor) = 6

-- of a device; 0 of any other node
abbrev pub major_of : Node → ℕ
major_of (Chr major minor) = major
major_of (Blk major minor) = major
major_of _ = 0

abbrev pub minor_of : Node → ℕ
minor_of (Chr major minor) = minor
minor_of (Blk major minor) = minor
minor_of _ = 0

-- of a symbolic link; nothing of any other node
abbrev pub target_of : Node → List ℕ
target_of (Link target) = target
target_of _ = []

abbrev pub node_part : Node → List ℕ
node_part n = number_part (kind_of n) ++ number_part (major_of n) ++ number_part (minor_of n) ++ text_part (target_of n)

abbrev pub row_part : NodeRow → List ℕ
row_part r = option_part number_part r.parent ++ text_part r.name ++ node_part r.node

abbrev pub attr_part : AttrRow → List ℕ
attr_part a = number_part a.on ++ text_part a.name ++ text_part a.value

abbrev pub mounted_part : Mounted → List ℕ
mounted_part m =
    number_part m.target ++ number_part m.root ++ text_part m.row.source ++ text_part m.row.fstype ++ number_part m.row.flags
    ++ text_part m.row.options ++ text_part m.row.via ++ flag_part m.row.shift

-- a whole tree, the oldest rows first
abbrev pub tree_part : Tree → List ℕ
tree_part T = list_part row_part (reverse T.nodes) ++ list_part attr_part (reverse T.attrs) ++ list_part mounted_part (reverse T.mounts)
