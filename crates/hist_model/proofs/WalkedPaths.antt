-- Worked examples of paths and effects, computed by the definitions.
-- By `refl`: both sides of each equation compute to the same value.
use Rattle.std.proofs.Common.{◌≡◌, ℕ, List, [], ◌∷◌, Some, None, refl}
use Rattle.std.specs.Prelude.{Ok, Err, pos, codes, true, false}
use Rattle.hist_model.specs.TreeOps.{Fail, Make, Mount, SetAttr, Open}
use Rattle.hist_model.specs.Trees.{Tree, row_in, entry_in, attr_in, mount_on, top_through, top, target_of, up_through, attr_replaced, with_lines, with_node, with_mount, stated, attr}
use Rattle.hist_model.specs.Paths.{Last, Follow, Create, Place, At, New, Refused, reaches, walk, walk_parts, pieces, components}
use Rattle.hist_model.specs.Effects.{perform, effect}
use Rattle.hist_model.specs.declared.request.Node.{Node}
use Rattle.hist_model.specs.declared.request.Node.TheVariants as node
use Rattle.hist_model.specs.declared.request.MountRow.{MountRow}
use Rattle.hist_model.specs.declared.request.Request.TheVariants as request
use Rattle.hist_model.specs.declared.script.TreeLine.{TreeLine}
use Rattle.hist_model.specs.declared.script.TreeLine.TheVariants.{Made, Attr}

line : ℕ → List ℕ → Node → TreeLine
line dir name kind = Made (record { ordinal = dir }) name kind

-- `/c` 1, `/c/etc` 2, `/etc` 3, `/c/l` 4 to `/etc`, the file `/c/f` 5, `/c/s` 6 to itself, `/c/r` 7 to `l/..`, with an attribute of `/etc`
lines : List TreeLine
lines = line 0 (codes "c") node.Dir ∷ line 1 (codes "etc") node.Dir ∷ line 0 (codes "etc") node.Dir ∷ line 1 (codes "l") (node.Link (codes "/etc"))
    ∷ line 1 (codes "f") node.Reg ∷ line 1 (codes "s") (node.Link (codes "/s")) ∷ line 1 (codes "r") (node.Link (codes "l/.."))
    ∷ Attr (record { ordinal = 3 }) (codes "a") (codes "1") ∷ Attr (record { ordinal = 3 }) (codes "a") (codes "2") ∷ []

T : Tree
T = stated lines

row : MountRow
row = record { source = codes "/dev/sda1"; fstype = codes "ext4"; flags = 0; options = []; via = []; shift = false }

-- two mounts on `/c/etc`, of which 9 is the newer one, and one on the root of that, 10
M : Tree
M = with_mount (with_mount (with_mount T 2 row) 2 row) 9 row

-- a path's place, from the container's root `/c` in the tree without mounts
leads : List ℕ → Last → Place
leads path last = reaches T 1 (Some 1) path last

-- the same with the mounts
leads_over : List ℕ → Last → Place
leads_over path last = reaches M 1 (Some 1) path last

parted : components (codes "//a/.//bc/") ≡ codes "a" ∷ codes "." ∷ codes "bc" ∷ []
unfolding pieces
parted = refl

-- a link goes from the container's root, and a relative target from the link's directory; the last component is followed where no node is made;
-- `..` stays at the container's root; a file and a missing name stop the walk before `..` and `.`
places :
    leads (codes "/l/x") Create ∷ leads (codes "r/etc") Follow ∷ leads (codes "l") Follow ∷ leads (codes "l") Create
    ∷ leads (codes "/../../y") Create ∷ leads (codes "/f/..") Follow ∷ leads (codes "/none/.") Follow ∷ leads (codes "/") Create
    ∷ leads (codes "/etc/..") Create ∷ leads (codes "/none/x") Create ∷ leads [] Follow ∷ leads (codes "/s/z") Follow ∷ []
    ≡ New 2 (codes "x") ∷ At 2 ∷ At 2 ∷ New 1 (codes "l")
    ∷ New 1 (codes "y") ∷ Refused 20 ∷ Refused 2 ∷ Refused 17
    ∷ Refused 17 ∷ Refused 2 ∷ Refused 2 ∷ Refused 40 ∷ []
unfolding leads T lines line with_lines row_in entry_in attr_in mount_on top_through target_of up_through attr_replaced walk walk_parts pieces
places = refl

-- from another root, from a base, and without one
starts : reaches T 0 (Some 0) (codes "/etc") Follow ∷ reaches T 1 (Some 2) (codes "../f") Follow ∷ reaches T 1 None (codes "etc") Follow ∷ []
    ≡ At 3 ∷ At 5 ∷ Refused 9 ∷ []
unfolding T lines line with_lines row_in entry_in attr_in mount_on top_through target_of up_through attr_replaced walk walk_parts pieces
starts = refl

-- `r` follows two links
links : walk 2 T 1 Follow 1 (codes "r" ∷ []) ∷ walk 1 T 1 Follow 1 (codes "r" ∷ []) ∷ [] ≡ At 1 ∷ Refused 40 ∷ []
unfolding T lines line with_lines row_in entry_in attr_in mount_on top_through target_of up_through attr_replaced walk walk_parts pieces
links = refl

-- the newest mount is seen, and what is mounted on its root; `..` goes out of both; a mount on the container's root is not seen
over_mounts :
    leads_over (codes "/l/new") Create ∷ leads_over (codes "/etc/../f") Follow ∷ At (top M 8) ∷ reaches (with_mount T 1 row) 1 None (codes "/etc") Follow ∷ []
    ≡ New 10 (codes "new") ∷ At 5 ∷ At 8 ∷ At 2 ∷ []
unfolding leads_over M row T lines line with_lines row_in entry_in attr_in mount_on top_through target_of up_through attr_replaced walk walk_parts pieces
over_mounts = refl

operations :
    effect (request.Mknod None (codes "/null") 8630 259) ∷ effect (request.Mknod None (codes "/d") 16877 0)
    ∷ effect (request.SetXattr (codes "/d") (codes "a") [] 4) ∷ effect (request.OpenAt (pos 3) (codes "f") 524289) ∷ []
    ≡ Make (codes "/null") (node.Chr 1 3) ∷ Fail 1 ∷ Fail 22 ∷ Open (codes "f") true ∷ []
operations = refl

nodes_made : perform T 1 None (Make (codes "/l/x") (node.Chr 1 3)) ∷ perform T 1 None (Make (codes "/etc") node.Reg) ∷ []
    ≡ Ok (with_node T 2 (codes "x") (node.Chr 1 3)) ∷ Err 17 ∷ []
unfolding T lines line with_lines row_in entry_in attr_in mount_on top_through target_of up_through attr_replaced walk walk_parts pieces
nodes_made = refl

mounts_made : perform T 1 None (Mount (codes "/l") row) ∷ perform T 1 None (Mount (codes "/f") row) ∷ [] ≡ Ok (with_mount T 2 row) ∷ Err 20 ∷ []
unfolding row T lines line with_lines row_in entry_in attr_in mount_on top_through target_of up_through attr_replaced walk walk_parts pieces
mounts_made = refl

-- the later of two stated values stands
attributes_set :
    perform T 0 None (SetAttr (codes "/etc") (codes "a") [] 1) ∷ perform T 0 None (SetAttr (codes "/etc") (codes "b") [] 3)
    ∷ perform T 0 None (SetAttr (codes "/etc") (codes "a") (codes "3") 2) ∷ []
    ≡ Err 17 ∷ Err 61 ∷ Ok (record T { attrs = record { on = 3; name = codes "a"; value = codes "3" } ∷ [] }) ∷ []
unfolding T lines line with_lines row_in entry_in attr_in mount_on top_through target_of up_through attr_replaced walk walk_parts pieces
attributes_set = refl

stated_twice : attr T 3 (codes "a") ≡ Some (codes "2")
unfolding T lines line with_lines attr_in attr_replaced
stated_twice = refl
