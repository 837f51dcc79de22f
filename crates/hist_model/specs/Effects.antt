-- What a request does to the tree: mknod(2), mount(2), setxattr(2), openat(2).
use Rattle.std.specs.Prelude.{ℕ, ◌/◌, ◌%◌, Bool, if◌then◌else◌, ◌==◌, List, [], ◌∷◌, Option, Some, None, is_some, Result, Ok, Err}
use Rattle.hist_model.specs.declared.request.Kind.{Kind}
use Rattle.hist_model.specs.declared.request.Kind.TheVariants as kind
use Rattle.hist_model.specs.declared.request.Node.{Node}
use Rattle.hist_model.specs.declared.request.Node.TheVariants as node
use Rattle.hist_model.specs.declared.request.Request.{Request}
use Rattle.hist_model.specs.declared.request.Request.TheVariants as request
use Rattle.hist_model.specs.declared.request.MountRow.{MountRow}
use Rattle.hist_model.specs.TreeOps.{TreeOp, Fail, Make, Mount, SetAttr, Open}
use Rattle.hist_model.specs.Requests.{kind_of, low_32, major_of, minor_of}
use Rattle.hist_model.specs.Trees.{Tree, is_dir_at, entry, attr, with_node, with_mount}
use Rattle.hist_model.specs.Trees.{with_attr, are_attr_flags, creates_attr, replaces_attr}
use Rattle.hist_model.specs.Paths.{Follow, Create, Place, At, New, Refused, reaches}
use Rattle.sys_abi.specs.Errnos.{eperm, enoent, eexist, enotdir, einval, enosys, enodata}

-- a node of this kind and device is made at a path
abbrev pub making : List ℕ → ℕ → Kind → TreeOp
making path dev kind.Reg = Make path node.Reg
making path dev kind.Chr = Make path (node.Chr (major_of dev) (minor_of dev))
making path dev kind.Blk = Make path (node.Blk (major_of dev) (minor_of dev))
making path dev kind.Fifo = Make path node.Fifo
making path dev kind.Sock = Make path node.Sock
making path dev kind.Dir = Fail eperm
making path dev kind.Bad = Fail einval

-- a file system of a type is mounted
abbrev pub mounting : List ℕ → MountRow → List ℕ → TreeOp
mounting target row [] = Fail einval
mounting target row (b ∷ bs) = Mount target row

-- the flag O_CLOEXEC, 0o2000000
abbrev pub is_cloexec : ℕ → Bool
is_cloexec flags = (flags / 524288) % 2 == 1

-- what a request does to the tree
abbrev pub effect : Request → TreeOp
effect (request.Mknod dirfd path mode dev) = making path (low_32 dev) (kind_of mode)
effect (request.Mount source target fstype options via flags shift) =
    mounting target (record { source = source; fstype = fstype; flags = flags; options = options; via = via; shift = shift }) fstype
effect (request.SetXattr path name value flags) = if are_attr_flags flags then SetAttr path name value flags else Fail einval
effect (request.OpenAt dirfd path flags) = Open path (is_cloexec flags)
effect _ = Fail enosys

-- the node is made where there is none
abbrev pub made : Tree → Node → Place → Result Tree ℕ
made T k (Refused e) = Err e
made T k (At n) = Err eexist
made T k (New dir name) = if is_some (entry T dir name) then Err eexist else Ok (with_node T dir name k)

-- the mount is made on a directory
abbrev pub mounted : Tree → MountRow → Place → Result Tree ℕ
mounted T row (Refused e) = Err e
mounted T row (New dir name) = Err enoent
mounted T row (At n) = if is_dir_at T n then Ok (with_mount T n row) else Err enotdir

-- the attribute is set where its flags allow it
abbrev pub attr_set : Tree → ℕ → List ℕ → List ℕ → ℕ → Option (List ℕ) → Result Tree ℕ
attr_set T n name value flags (Some old) = if creates_attr flags then Err eexist else Ok (with_attr T n name value)
attr_set T n name value flags None = if replaces_attr flags then Err enodata else Ok (with_attr T n name value)

abbrev pub attributed : Tree → List ℕ → List ℕ → ℕ → Place → Result Tree ℕ
attributed T name value flags (Refused e) = Err e
attributed T name value flags (New dir last) = Err enoent
attributed T name value flags (At n) = attr_set T n name value flags (attr T n name)

-- the node is there
abbrev pub opened : Tree → Place → Result Tree ℕ
opened T (Refused e) = Err e
opened T (New dir name) = Err enoent
opened T (At n) = Ok T

-- the tree after an operation with paths from this root and base, or its error
abbrev pub perform : Tree → ℕ → Option ℕ → TreeOp → Result Tree ℕ
perform T root base (Fail e) = Err e
perform T root base (Make path k) = made T k (reaches T root base path Create)
perform T root base (Mount target row) = mounted T row (reaches T root base target Follow)
perform T root base (SetAttr path name value flags) =
    if are_attr_flags flags then attributed T name value flags (reaches T root base path Follow) else Err einval
perform T root base (Open path cloexec) = opened T (reaches T root base path Follow)
