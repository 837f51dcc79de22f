-- What is answered of an operation on the tree.
use Rattle.std.specs.Prelude.{◌≡◌, List, ℕ, ◌+◌, ◌<◌, length, Result, Ok, Err, IsOk}
use Rattle.hist_model.specs.Trees.{Tree}
use Rattle.hist_model.specs.Paths.{Place, At, New}
use Rattle.hist_model.specs.Paths as paths
use Rattle.hist_model.specs.TreeOps.{TreeOp, Fail, Make, Mount, SetAttr, Open}
use Rattle.mount_tree.specs.Changes.{Seen, row_length}
use Rattle.hist_model.specs.declared.request.Node.{Node}
use Rattle.sys_abi.specs.declared.memory.OrNoMemory.{OrNoMemory}
use Rattle.sys_abi.specs.declared.memory.OrNoMemory.TheVariants.{Refused, NoMemory}
use Rattle.sys_abi.specs.Errnos.{enoent}

-- a walk that leads to no node, with its error
abbrev pub IsNotFollowed : Place → ℕ → Type 0
IsNotFollowed (At n) e = ⊥
IsNotFollowed (New dir name) e = e ≡ enoent
IsNotFollowed (paths.Refused e') e = e ≡ e'

-- the room with which an operation takes no memory
abbrev pub room_wanted : TreeOp → ℕ
room_wanted (Fail e) = 0
room_wanted (Make path node) = 256
room_wanted (Mount target row) = row_length row + 1
room_wanted (SetAttr path name value flags) = length name + length value + 1
room_wanted (Open path cloexec) = 0

-- the tree is the one that is expected; or the expected error is answered; or what is expected would succeed,
-- and less room was there than it wants
abbrev pub IsPerformed : ℕ → Seen → Seen → Result Tree ℕ → Result (Unit {0}) (OrNoMemory ℕ) → Type 0
IsPerformed room old new expected (Ok done) = expected ≡ Ok new.tree
IsPerformed room old new expected (Err (Refused e)) = (expected ≡ Err e) × (new ≡ old)
IsPerformed room old new expected (Err NoMemory) = IsOk expected × (old.spare < room) × (new ≡ old)

-- a node is made at a path, or none is, with this error
abbrev pub making_of : List ℕ → Result Node ℕ → TreeOp
making_of path (Ok k) = Make path k
making_of path (Err e) = Fail e
