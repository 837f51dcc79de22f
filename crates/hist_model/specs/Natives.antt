-- Calls that run natively, without rights (close(2), getpid(2), sysinfo(2), mknod(2), mount(2), setxattr(2), openat(2)).
use Rattle.std.specs.Prelude.{ℕ, ◌%◌, ◌^◌, Bool, true, false, not, if◌then◌else◌, ◌==◌, List, Option, Some, None, Result, Ok, Err, ℤ}
use Rattle.std.specs.Prelude.{pos, negsuc, nat_eq, codes}
use Rattle.std.specs.List.{starts_with}
use Rattle.hist_model.specs.Look.{Name, oldest}
use Rattle.hist_model.specs.Steps.{number_entered, entered, pid_named, place_or}
use Rattle.hist_model.specs.Memory.{is_number, argument, last_call, group_named, all_mapped, mapped_byte, sysinfo_size}
use Rattle.hist_model.specs.Trees.{Tree, is_dir_at}
use Rattle.hist_model.specs.Paths.{Place, At, New, Refused, Follow, reaches}
use Rattle.hist_model.specs.Effects.{effect, perform}
use Rattle.hist_model.specs.Copies.{plan, copy_of}
use Rattle.hist_model.specs.Requests.{request, base_dirfd}
use Rattle.hist_model.specs.declared.event.Event.{Event}
use Rattle.hist_model.specs.declared.event.What.{What}
use Rattle.hist_model.specs.declared.request.Node.TheVariants.{Chr, Blk}
use Rattle.hist_model.specs.declared.request.Obj.{Obj}
use Rattle.hist_model.specs.declared.request.Obj.TheVariants.{Node as NodeObj}
use Rattle.hist_model.specs.declared.request.Request.{Request}
use Rattle.hist_model.specs.declared.request.Request.TheVariants.{Mknod, SetXattr, OpenAt}
use Rattle.hist_model.specs.TreeOps.{TreeOp, Fail, Make}
use Rattle.hist_model.specs.declared.script.Script.{Script}
use Rattle.sys_abi.specs.Calls.{nr_close, nr_getpid, nr_sysinfo}
use Rattle.sys_abi.specs.Errnos.{eperm, enoent, ebadf, efault, emfile, enosys}

-- what the tree and the descriptor tables are after a history: the tree, what a number of a group leads to,
-- and the base that a worker has opened
pub record Files : Type 0 where
  pub tree : Tree
  pub slot : ℕ → ℕ → Option Obj
  pub base : ℕ → Option ℕ

-- the container's root
abbrev pub root : Script → ℕ
root S = S.root.ordinal

abbrev pub directory_in : Tree → Option Obj → Option ℕ
directory_in T (Some (NodeObj n)) = if is_dir_at T n.ordinal then Some n.ordinal else None
directory_in T _ = None

-- the directory from which a relative path goes: -100 (AT_FDCWD) is the container's root, another number an open directory
abbrev pub base_of : Script → Files → ℕ → ℤ → Option ℕ
base_of S F g (pos n) = directory_in F.tree (F.slot g n)
base_of S F g (negsuc n) = if n == 99 then Some (root S) else None

abbrev pub base_for : Script → Files → ℕ → Option ℤ → Option ℕ
base_for S F g None = None
base_for S F g (Some d) = base_of S F g d

abbrev pub is_open : Option Obj → Bool
is_open (Some o) = true
is_open None = false

-- the lowest number below a limit that isn't open
abbrev pub lowest_free : Files → ℕ → ℕ → Option ℕ
lowest_free F g limit = oldest (λ n. not (is_open (F.slot g n))) limit

-- what a native call does: fail, give a number, change the tree, open or close a number, or write the host's figures
pub data NativeStep : Type 0 where
  Fails : ℕ → NativeStep
  Gives : ℕ → NativeStep
  Changes : Tree → NativeStep
  Opens : ℕ → ℕ → NativeStep
  Closes : ℕ → NativeStep
  Writes : NativeStep

abbrev pub native_answer : NativeStep → Result ℕ ℕ
native_answer (Fails e) = Err e
native_answer (Gives n) = Ok n
native_answer (Changes T) = Ok 0
native_answer (Opens n x) = Ok n
native_answer (Closes n) = Ok 0
native_answer Writes = Ok 0

abbrev pub changed : Result Tree ℕ → NativeStep
changed (Ok T) = Changes T
changed (Err e) = Fails e

abbrev pub is_device : TreeOp → Bool
is_device (Make path (Chr a b)) = true
is_device (Make path (Blk a b)) = true
is_device _ = false

-- a node: devices answer EPERM once the tests of the tree have passed
abbrev pub make_natively : Bool → Result Tree ℕ → NativeStep
make_natively true (Ok T) = Fails eperm
make_natively false (Ok T) = Changes T
make_natively device (Err e) = Fails e

abbrev pub is_refused : TreeOp → Bool
is_refused (Fail e) = true
is_refused _ = false

-- an attribute: bad flags come first, then EPERM for a name that isn't the user's own
abbrev pub set_natively : Bool → Bool → Result Tree ℕ → NativeStep
set_natively true own r = changed r
set_natively false true r = changed r
set_natively false false r = Fails eperm

abbrev pub open_at_number : ℕ → Option ℕ → NativeStep
open_at_number x None = Fails emfile
open_at_number x (Some n) = Opens n x

abbrev pub opened_place : Option ℕ → Place → NativeStep
opened_place free (At x) = open_at_number x free
opened_place free (New dir name) = Fails enoent
opened_place free (Refused e) = Fails e

-- a request with its arguments read, from a base
abbrev pub request_natively : Script → Files → ℕ → Option ℕ → Request → NativeStep
request_natively S F g base (Mknod d path mode dev) =
    let op = effect (Mknod d path mode dev) in make_natively (is_device op) (perform F.tree (root S) base op)
request_natively S F g base (SetXattr path name value flags) =
    let op = effect (SetXattr path name value flags) in
    set_natively (is_refused op) (starts_with nat_eq name (codes "user.")) (perform F.tree (root S) base op)
request_natively S F g base (OpenAt d path flags) = opened_place (lowest_free F g S.rlimit) (reaches F.tree (root S) base path Follow)
request_natively S F g base _ = Fails eperm

abbrev pub copied_natively : Script → Files → ℕ → What → Result (List (List ℕ)) ℕ → NativeStep
copied_natively S F g call (Err e) = Fails e
copied_natively S F g call (Ok texts) =
    request_natively S F g (base_for S F g (base_dirfd (number_entered call) (entered call)))
    (request (number_entered call) (entered call) texts)

abbrev pub close_natively : ℕ → Option Obj → NativeStep
close_natively n None = Fails ebadf
close_natively n (Some o) = Closes n

abbrev pub has_base : Option ℤ → Bool
has_base (Some d) = true
has_base None = false

-- the call that runs, in a group
abbrev pub call_natively : Script → List Event → Files → Name → ℕ → What → NativeStep
call_natively S K F n g call =
    let nr = number_entered call in
    let low = argument call 0 % 2 ^ 32 in
    if is_number nr nr_close then close_natively low (F.slot g low) else (
    if is_number nr nr_getpid then Gives (pid_named K n) else (
    if is_number nr nr_sysinfo then (if all_mapped S.map (argument call 0) sysinfo_size then Writes else Fails efault) else (
    if has_base (base_dirfd nr (entered call)) then copied_natively S F g call (copy_of (mapped_byte S K g) (plan nr (entered call))) else
    Fails enosys)))

-- a task's native call
abbrev pub native_step : Script → List Event → Files → Name → NativeStep
native_step S K F n = call_natively S K F n (place_or (group_named K n)) (last_call K n)
