-- What a look sees. Nothing happens by it.
use Rattle.std.specs.Prelude.{ℕ, zero, suc, Bool, true, false, ◌||◌, if◌then◌else◌, ◌==◌, List, [], ◌++◌, Option, Some, None, codes}
use Rattle.std.specs.Prelude.{decimal, ℤ}
use Rattle.hist_model.specs.Calls.{state_at}
use Rattle.hist_model.specs.Files.{files}
use Rattle.hist_model.specs.Legal.{tree}
use Rattle.hist_model.specs.Look.{Name}
use Rattle.hist_model.specs.Natives.{base_of, root}
use Rattle.hist_model.specs.Paths.{Create, Follow, Place, At, New, Refused, reaches}
use Rattle.hist_model.specs.ReportWords.{errno_text, name_text, quoted}
use Rattle.hist_model.specs.Signals.{call_of, held}
use Rattle.hist_model.specs.Steps.{lives, opened, pid_named, place_or}
use Rattle.hist_model.specs.Tasks.{alive, ended, holder, name_of, parent}
use Rattle.hist_model.specs.Trees.{Tree, entry, node_at, top}
use Rattle.hist_model.specs.declared.event.Event.{Event}
use Rattle.hist_model.specs.declared.notification.State.{State}
use Rattle.hist_model.specs.declared.notification.State.TheVariants.{Unfetched, Fetched, Answered}
use Rattle.hist_model.specs.declared.request.Node.{Node}
use Rattle.hist_model.specs.declared.request.Node.TheVariants as node
use Rattle.hist_model.specs.declared.request.Obj.{Obj}
use Rattle.hist_model.specs.declared.request.Obj.TheVariants as leads
use Rattle.hist_model.specs.declared.script.Script.{Script}
use Rattle.history_frames.specs.Ordinals.{task_name_of, tasks_made}
use Rattle.step_requests.specs.declared.request.Look.{Look}
use Rattle.step_requests.specs.declared.request.Look.TheVariants as look
use Rattle.sys_abi.specs.Errnos.{eexist, enoent, esrch}
use Rattle.state_answers.specs.Able.{can_step}

abbrev pub none_text : List ℕ
none_text = codes "look none\n"

-- ---- tasks (proc_pid_status(5))

-- PPid: the PID of the parent while that lives; else 0, as of a parent outside of the container
abbrev pub parent_pid : List Event → Name → ℕ
parent_pid K n = if alive K (parent n) then pid_named K (parent n) else 0

-- State: whether the task has ended, is able to step, or waits, and then whether only a fatal signal ends its wait
abbrev pub state_text : Bool → Bool → Bool → List ℕ
state_text gone able held =
    if gone then codes "zombie" else (if able then codes "running" else (if held then codes "disk-sleep" else codes "sleeping"))

abbrev pub task_state : Script → List Event → Name → List ℕ
task_state S K n = state_text (ended K n) (can_step S K n) (held S.killable K n)

abbrev pub task_text : Script → List Event → Name → List ℕ
task_text S K n =
    codes "look task " ++ name_text n ++ codes " ppid " ++ decimal (parent_pid K n) ++ codes " state " ++ task_state S K n ++ codes "\n"

-- the task at a place, if one is meant
abbrev pub task_at_text : Script → List Event → Option ℕ → List ℕ
task_at_text S K None = none_text
task_at_text S K (Some t) = task_text S K (name_of K t)

abbrev pub pid_text : Script → List Event → ℕ → List ℕ
pid_text S K pid = task_at_text S K (holder K pid)

-- ---- nodes (inode(7))

abbrev pub device_text : List ℕ → ℕ → ℕ → List ℕ
device_text kind major minor = kind ++ decimal major ++ codes ":" ++ decimal minor

abbrev pub kind_text : Node → List ℕ
kind_text node.Dir = codes " dir"
kind_text node.Reg = codes " reg"
kind_text (node.Link target) = codes " link " ++ quoted target
kind_text node.Fifo = codes " fifo"
kind_text node.Sock = codes " sock"
kind_text (node.Chr major minor) = device_text (codes " chr ") major minor
kind_text (node.Blk major minor) = device_text (codes " blk ") major minor

abbrev pub kind_of_text : Option Node → List ℕ
kind_of_text (Some n) = kind_text n
kind_of_text None = []

-- a node by its ordinal, and its kind
abbrev pub node_text : Tree → ℕ → List ℕ
node_text T n = codes "look node " ++ decimal n ++ kind_of_text (node_at T n) ++ codes "\n"

-- ---- descriptors

abbrev pub object_text : Tree → Option Obj → List ℕ
object_text T None = none_text
object_text T (Some leads.Console) = codes "look console\n"
object_text T (Some (leads.Broker n)) = codes "look file " ++ decimal n ++ codes "\n"
object_text T (Some (leads.Node n)) = node_text T n.ordinal

-- what a number of the living task that holds a PID leads to
abbrev pub object_of : Script → List Event → ℕ → ℕ → Option Obj
object_of S K pid n = if lives K (holder K pid) then (files S K).slot (place_or (opened K (holder K pid))) n else None

abbrev pub fd_text : Script → List Event → ℕ → ℕ → List ℕ
fd_text S K pid n = object_text (tree S K) (object_of S K pid n)

-- ---- paths (path_resolution(7))

abbrev pub is_link : Option Node → Bool
is_link (Some (node.Link target)) = true
is_link _ = false

-- the entry of a directory that isn't followed: a link itself, another one with what is mounted there
abbrev pub unfollowed_entry : Tree → Option ℕ → Place
unfollowed_entry T None = Refused enoent
unfollowed_entry T (Some n) = At (if is_link (node_at T n) then n else top T n)

-- by the walk to a name that a new node would get, where the last component isn't followed. A path that ends with no name, as `/` or
-- `..`, has no link there: EEXIST, which no other walk answers, tells that.
abbrev pub unfollowed : Tree → Place → Place → Place
unfollowed T followed (New dir name) = unfollowed_entry T (entry T dir name)
unfollowed T followed (Refused e) = if e == eexist then followed else Refused e
unfollowed T followed (At n) = At n

abbrev pub place_of : Tree → ℕ → Option ℕ → List ℕ → Bool → Place
place_of T r base path true = reaches T r base path Follow
place_of T r base path false = unfollowed T (reaches T r base path Follow) (reaches T r base path Create)

abbrev pub error_text : ℕ → List ℕ
error_text e = codes "look error " ++ errno_text e ++ codes "\n"

abbrev pub place_text : Tree → Place → List ℕ
place_text T (At n) = node_text T n
place_text T (New dir name) = error_text enoent
place_text T (Refused e) = error_text e

-- where a path leads that the living task which holds a PID would walk from a descriptor
abbrev pub path_text : Script → List Event → ℕ → ℤ → List ℕ → Bool → List ℕ
path_text S K pid dirfd path follows =
    if lives K (holder K pid)
    then place_text (tree S K)
    (place_of (tree S K) (root S) (base_of S (files S K) (place_or (opened K (holder K pid))) dirfd) path follows)
    else error_text esrch

-- ---- the listener (poll(2) in seccomp_unotify(2))

abbrev pub is_unfetched : Option State → Bool
is_unfetched (Some Unfetched) = true
is_unfetched _ = false

abbrev pub is_received : Option State → Bool
is_received (Some Fetched) = true
is_received (Some Answered) = true
is_received _ = false

abbrev pub is_fetched : Option State → Bool
is_fetched (Some Fetched) = true
is_fetched _ = false

-- one of the first n tasks waits in a call that has come so far
unfoldable pub some_waits : (Option State → Bool) → List Event → ℕ → Bool
some_waits test K zero = false
some_waits test K (suc n) = some_waits test K n || test (state_at K (call_of K (task_name_of K n)))

abbrev pub bit_text : Bool → List ℕ
bit_text true = codes "1"
bit_text false = codes "0"

-- POLLIN: a call waits to be received; POLLOUT: one was received and waits for its answer
abbrev pub listener_text : List Event → List ℕ
listener_text K =
    codes "look in=" ++ bit_text (some_waits is_unfetched K (tasks_made K)) ++ codes " out="
    ++ bit_text (some_waits is_fetched K (tasks_made K)) ++ codes "\n"

-- ---- all looks

abbrev pub look_text : Script → List Event → Look → List ℕ
look_text S K (look.Pid pid) = pid_text S K pid
look_text S K (look.Fd pid n) = fd_text S K pid n
look_text S K (look.Path pid dirfd path follows) = path_text S K pid dirfd path follows
look_text S K look.Listener = listener_text K
