-- The tree and the descriptor tables after a history (path_resolution(7), open(2), close(2),
-- seccomp_unotify(2) on SECCOMP_IOCTL_NOTIF_ADDFD).
use Rattle.std.specs.Prelude.{ℕ, ◌%◌, Bool, ◌&&◌, if◌then◌else◌, ◌==◌, List, [], ◌∷◌, length, Option, Some, None, Result}
use Rattle.std.specs.Prelude.{Ok, Err, nat_le, nat_lt}
use Rattle.hist_model.specs.Look.{event_at, task_name}
use Rattle.hist_model.specs.Tasks.{holder}
use Rattle.hist_model.specs.Signals.{call_of}
use Rattle.hist_model.specs.Calls.{queue, caller}
use Rattle.hist_model.specs.Steps.{opened, place_or}
use Rattle.hist_model.specs.Systems.{Slot, Number, Full, Over}
use Rattle.hist_model.specs.Memory.{group_named, own_group}
use Rattle.hist_model.specs.Trees.{Tree, stated}
use Rattle.hist_model.specs.Effects.{effect, perform}
use Rattle.hist_model.specs.Natives.{Files, root, base_of, lowest_free, NativeStep, Changes, Opens, Closes, native_step}
use Rattle.hist_model.specs.declared.event.Event.{Event}
use Rattle.hist_model.specs.declared.event.Actor.{Actor}
use Rattle.hist_model.specs.declared.event.Actor.TheVariants.{Worker}
use Rattle.hist_model.specs.declared.event.What.{What}
use Rattle.hist_model.specs.declared.event.What.TheVariants.{Spawn, Native, Install, OpenBase, Act, AddfdPut, LetGo}
use Rattle.hist_model.specs.declared.event.SpawnKind.{SpawnKind}
use Rattle.hist_model.specs.declared.event.SpawnKind.TheVariants.{New, Copied, Shared}
use Rattle.hist_model.specs.declared.request.Obj.{Obj}
use Rattle.hist_model.specs.declared.request.Obj.TheVariants.{Console, Node as NodeObj, Broker}
use Rattle.hist_model.specs.declared.script.Script.{Script}
use Rattle.sys_abi.specs.declared.wire.Addfd.{Addfd}

-- the files before the first event: the stated tree, and nothing open
abbrev pub stated_files : Script → Files
stated_files S = record { tree = stated S.tree; slot = λ g n. None; base = λ w. None }

-- a new group's numbers 0, 1 and 2 lead to the console
abbrev pub console_slot : ℕ → Option Obj
console_slot n = if nat_lt n 3 then Some Console else None

-- the slots with those of one group replaced, and with one slot replaced
abbrev pub with_group : (ℕ → ℕ → Option Obj) → ℕ → (ℕ → Option Obj) → ℕ → ℕ → Option Obj
with_group slot f own g n = if g == f then own n else slot g n

abbrev pub with_slot : (ℕ → ℕ → Option Obj) → ℕ → ℕ → Option Obj → ℕ → ℕ → Option Obj
with_slot slot f m o g n = if (g == f) && (n == m) then o else slot g n

abbrev pub with_base : (ℕ → Option ℕ) → ℕ → Option ℕ → ℕ → Option ℕ
with_base base v b w = if w == v then b else base w

-- after a spawn that made a group at this place
abbrev pub after_spawn : List Event → Files → Actor → SpawnKind → Files
after_spawn K F a New = record F { slot = with_group F.slot (length K) console_slot }
after_spawn K F a Copied = record F { slot = with_group F.slot (length K) (F.slot (own_group K a)) }
after_spawn K F a Shared = F

-- after a native call of a task of a group
abbrev pub after_native : Files → ℕ → NativeStep → Files
after_native F g (Changes T) = record F { tree = T }
after_native F g (Opens n x) = record F { slot = with_slot F.slot g n (Some (NodeObj (record { ordinal = x }))) }
after_native F g (Closes n) = record F { slot = with_slot F.slot g n None }
after_native F g _ = F

abbrev pub tree_or : Result Tree ℕ → Tree → Tree
tree_or (Ok T) old = T
tree_or (Err e) old = old

-- a request for nothing
abbrev pub no_request : Addfd
no_request = record { id = 0; flags = 0; srcfd = 0; newfd = 0; newfd_flags = 0 }

abbrev pub asked_by : What → Addfd
asked_by (AddfdPut asked answer) = asked
asked_by _ = no_request

-- what the request at a place asks for
abbrev pub asked_in : Option Event → Addfd
asked_in None = no_request
asked_in (Some e) = asked_by e.what

abbrev pub first_request : List Event → List ℕ → Addfd
first_request K [] = no_request
first_request K (r ∷ more) = asked_in (event_at K r)

-- the request that a task installs next: the oldest of its call's without an installation
abbrev pub request_for : List Event → Option ℕ → Addfd
request_for K None = no_request
request_for K (Some c) = first_request K (queue K c)

-- after an event of this actor
abbrev pub files_after : Script → List Event → Files → Actor → What → Files
files_after S K F a (Spawn n (Ok made)) = after_spawn K F a made.1
files_after S K F a (Native (Ok n)) = after_native F (own_group K a) (native_step S K F (task_name a))
files_after S K F a (Install (Ok m)) = record F {
  slot = with_slot F.slot (own_group K a) m (Some (Broker (request_for K (call_of K (task_name a))).srcfd));
}
files_after S K F (Worker w) (Act q cap (Ok u)) = record F { tree = tree_or (perform F.tree (root S) (F.base w) (effect q)) F.tree }
files_after S K F (Worker w) (OpenBase p d (Ok u)) = record F {
  base = with_base F.base w (base_of S F (place_or (opened K (holder K p))) d);
}
files_after S K F (Worker w) LetGo = record F { base = with_base F.base w None }
files_after S K F a _ = F

-- the files after a history
unfoldable pub files : Script → List Event → Files
files S [] = stated_files S
files S (e ∷ K) = files_after S K (files S K) e.who e.what

-- SECCOMP_ADDFD_FLAG_SETFD is set
abbrev pub has_setfd : Addfd → Bool
has_setfd asked = asked.flags % 2 == 1

abbrev pub slot_or_full : Option ℕ → Slot
slot_or_full (Some n) = Number n
slot_or_full None = Full

-- the largest table has this many numbers (nr_open, proc(5))
abbrev pub nr_open : ℕ
nr_open = 1048576

-- where a request is installed in a group
abbrev pub slot_in : ℕ → Files → ℕ → Addfd → Slot
slot_in rlimit F g asked =
    if has_setfd asked then (if nat_le nr_open asked.newfd then Over else (if nat_le rlimit asked.newfd then Full else Number asked.newfd))
    else slot_or_full (lowest_free F g rlimit)

-- where the request at a place, put for a call, is installed
abbrev pub slot_for : Script → List Event → ℕ → ℕ → Slot
slot_for S K c r = slot_in S.rlimit (files S K) (place_or (group_named K (caller K c))) (asked_in (event_at K r))
