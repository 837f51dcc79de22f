-- The parts of a tree's key end by themselves.
-- A row is told by its parts, which stand one after another; a node by the number of its kind, and by what it has.
use Rattle.std.proofs.Common.{◌≡◌, ℕ, Bool, List, reverse, Option, refl, sym, ap, ◌∙◌}
use Rattle.std.specs.Prelude.{◌==◌, if◌then◌else◌}
use Rattle.std.proofs.lemmas.List.{reverse-reverse}
use Rattle.hist_model.specs.Trees.{Tree}
use Rattle.hist_model.specs.declared.request.Node.{Node}
use Rattle.hist_model.specs.declared.request.Node.TheVariants.{Blk, Chr, Dir, Fifo, Link, Reg, Sock}
use Rattle.hist_model.specs.declared.tree.AttrRow.{AttrRow}
use Rattle.hist_model.specs.declared.tree.Mounted.{Mounted}
use Rattle.hist_model.specs.declared.tree.NodeRow.{NodeRow}
use Rattle.key_bytes.specs.Parts.{Ends, flag_part, list_part, number_part, option_part, pair_part, text_part}
use Rattle.key_bytes.proofs.Ending.{flag_ends, list_ends, option_ends, pair_ends, text_ends, told_ends}
use Rattle.key_bytes.proofs.Numbers.{number_ends}
use Rattle.mount_tree.specs.Written.{attr_part, kind_of, major_of, minor_of, mounted_part, node_part, row_part, target_of, tree_part}

-- rows that are kept the other way round
pub turned_back : {A : Type 0} (xs ys : List A) → reverse xs ≡ ys → xs ≡ reverse ys
turned_back xs ys q = sym (reverse-reverse xs) ∙ ap reverse q

-- ---- Nodes

abbrev NodeParts : Type 0
NodeParts = ((ℕ × ℕ) × ℕ) × List ℕ

node_parts : NodeParts → List ℕ
node_parts = pair_part (pair_part (pair_part number_part number_part) number_part) text_part

node_parts_end : Ends node_parts
unfolding node_parts
node_parts_end = pair_ends (pair_part (pair_part number_part number_part) number_part) text_part
    (pair_ends (pair_part number_part number_part) number_part (pair_ends number_part number_part number_ends number_ends) number_ends) text_ends

abbrev told_node : Node → NodeParts
told_node n = (((kind_of n, major_of n), minor_of n), target_of n)

node_with : NodeParts → Node
node_with p =
    let kind = p.0.0.0 in
    if kind == 0 then Dir else (if kind == 1 then Reg else (if kind == 2 then Fifo else (if kind == 3 then Sock else (
    if kind == 4 then Link p.1 else (if kind == 5 then Chr p.0.0.1 p.0.1 else Blk p.0.0.1 p.0.1)))))

same-node : (n : Node) → node_with (told_node n) ≡ n
unfolding node_with
same-node Dir = refl
same-node Reg = refl
same-node Fifo = refl
same-node Sock = refl
same-node (Link target) = refl
same-node (Chr major minor) = refl
same-node (Blk major minor) = refl

node_ends : Ends node_part
unfolding node_parts
node_ends = told_ends told_node node_with node_parts same-node node_parts_end

-- ---- Rows

row_ends : Ends row_part
row_ends = told_ends (λ (r : NodeRow). ((r.parent, r.name), r.node)) (λ (p : (Option ℕ × List ℕ) × Node). record { parent = p.0.0; name = p.0.1; node = p.1 })
    (pair_part (pair_part (option_part number_part) text_part) node_part) (λ r. refl)
    (pair_ends (pair_part (option_part number_part) text_part) node_part (pair_ends (option_part number_part) text_part (option_ends number_part number_ends) text_ends) node_ends)

attr_ends : Ends attr_part
attr_ends = told_ends (λ (a : AttrRow). ((a.on, a.name), a.value)) (λ (p : (ℕ × List ℕ) × List ℕ). record { on = p.0.0; name = p.0.1; value = p.1 })
    (pair_part (pair_part number_part text_part) text_part) (λ a. refl)
    (pair_ends (pair_part number_part text_part) text_part (pair_ends number_part text_part number_ends text_ends) text_ends)

abbrev MountParts : Type 0
MountParts = ((((((ℕ × ℕ) × List ℕ) × List ℕ) × ℕ) × List ℕ) × List ℕ) × Bool

mount_parts : MountParts → List ℕ
mount_parts = pair_part (pair_part (pair_part (pair_part (pair_part (pair_part (pair_part number_part number_part) text_part) text_part) number_part) text_part) text_part) flag_part

mount_parts_end : Ends mount_parts
unfolding mount_parts
mount_parts_end =
    pair_ends (pair_part (pair_part (pair_part (pair_part (pair_part (pair_part number_part number_part) text_part) text_part) number_part) text_part) text_part) flag_part
    (pair_ends (pair_part (pair_part (pair_part (pair_part (pair_part number_part number_part) text_part) text_part) number_part) text_part) text_part
    (pair_ends (pair_part (pair_part (pair_part (pair_part number_part number_part) text_part) text_part) number_part) text_part
    (pair_ends (pair_part (pair_part (pair_part number_part number_part) text_part) text_part) number_part
    (pair_ends (pair_part (pair_part number_part number_part) text_part) text_part
    (pair_ends (pair_part number_part number_part) text_part (pair_ends number_part number_part number_ends number_ends) text_ends) text_ends) number_ends) text_ends) text_ends) flag_ends

mounted_ends : Ends mounted_part
unfolding mount_parts
mounted_ends = told_ends
    (λ (m : Mounted). (((((((m.target, m.root), m.row.source), m.row.fstype), m.row.flags), m.row.options), m.row.via), m.row.shift))
    (λ (p : MountParts). record {
      target = p.0.0.0.0.0.0.0;
      root = p.0.0.0.0.0.0.1;
      row = record { source = p.0.0.0.0.0.1; fstype = p.0.0.0.0.1; flags = p.0.0.0.1; options = p.0.0.1; via = p.0.1; shift = p.1 };
    })
    mount_parts (λ m. refl) mount_parts_end

-- ---- A tree

abbrev TreeParts : Type 0
TreeParts = (List NodeRow × List AttrRow) × List Mounted

tree_parts : TreeParts → List ℕ
tree_parts = pair_part (pair_part (list_part row_part) (list_part attr_part)) (list_part mounted_part)

tree_parts_end : Ends tree_parts
unfolding tree_parts
tree_parts_end = pair_ends (pair_part (list_part row_part) (list_part attr_part)) (list_part mounted_part)
    (pair_ends (list_part row_part) (list_part attr_part) (list_ends row_part row_ends) (list_ends attr_part attr_ends)) (list_ends mounted_part mounted_ends)

tree_with : TreeParts → Tree
tree_with p = record { nodes = reverse p.0.0; attrs = reverse p.0.1; mounts = reverse p.1 }

same-tree : (T : Tree) → tree_with ((reverse T.nodes, reverse T.attrs), reverse T.mounts) ≡ T
unfolding tree_with
same-tree T = λ i. record { nodes = reverse-reverse T.nodes i; attrs = reverse-reverse T.attrs i; mounts = reverse-reverse T.mounts i }

pub tree_ends : Ends tree_part
unfolding tree_parts
tree_ends = told_ends (λ (T : Tree). ((reverse T.nodes, reverse T.attrs), reverse T.mounts)) tree_with tree_parts same-tree tree_parts_end
