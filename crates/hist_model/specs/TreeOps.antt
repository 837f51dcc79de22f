-- What a request does to the tree: mknod(2), mount(2), setxattr(2), openat(2).
use Rattle.std.specs.Prelude.{ℕ, Bool, List}
use Rattle.hist_model.specs.declared.request.MountRow.{MountRow}
use Rattle.hist_model.specs.declared.request.Node.{Node}

-- nothing, with the error by which it is refused before any walk; else a node is made at a path, something is mounted on a path,
-- an attribute of a name is set to a value with flags, or a path is opened, with O_CLOEXEC or without
pub data TreeOp : Type 0 where
  Fail : ℕ → TreeOp
  Make : List ℕ → Node → TreeOp
  Mount : List ℕ → MountRow → TreeOp
  SetAttr : List ℕ → List ℕ → List ℕ → ℕ → TreeOp
  Open : List ℕ → Bool → TreeOp
