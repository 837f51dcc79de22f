-- The state of the groups after a history, and which events make what of it.
use Rattle.std.specs.Prelude.{◌≡◌, ℕ, Bool, true, false, List, Option, Some, None, Result, Ok, Err}
use Rattle.sys_abi.specs.declared.wire.Addfd.{Addfd}
use Rattle.hist_model.specs.Files.{files, request_for}
use Rattle.hist_model.specs.Kinds.{is_shared}
use Rattle.hist_model.specs.Look.{Name, task_name}
use Rattle.hist_model.specs.Memory.{byte, group_named, own_group, stored}
use Rattle.hist_model.specs.Natives.{NativeStep, Opens, Closes, native_step}
use Rattle.hist_model.specs.Signals.{call_of}
use Rattle.hist_model.specs.Steps.{mem, place_or}
use Rattle.hist_model.specs.declared.event.Actor.{Actor}
use Rattle.hist_model.specs.declared.event.Actor.TheVariants.{Task, Worker}
use Rattle.hist_model.specs.declared.event.Event.{Event}
use Rattle.hist_model.specs.declared.event.SpawnKind.{SpawnKind}
use Rattle.hist_model.specs.declared.event.SpawnKind.TheVariants.{New, Copied}
use Rattle.hist_model.specs.declared.event.What.{What}
use Rattle.hist_model.specs.declared.event.What.TheVariants.{Spawn, Poke, Plant, Native, Install}
use Rattle.hist_model.specs.declared.policy.Cap.{Cap}
use Rattle.hist_model.specs.declared.request.Obj.{Obj}
use Rattle.hist_model.specs.declared.request.Obj.TheVariants.{Node}
use Rattle.hist_model.specs.declared.script.Script.{Script}
use Rattle.history_frames.specs.Ordinals.{groups_made, group_of}
use Rattle.task_groups.specs.Groups.{Holds}
use Rattle.task_groups.specs.State.{Contents, State}
use Rattle.task_groups.specs.declared.groups.Groups.{Groups}

-- what the group of an ordinal has after a history
abbrev pub contents : Script → List Event → ℕ → Contents
contents S K o = record { byte = byte S K (place_or (group_of K o)); slot = (files S K).slot (place_or (group_of K o)) }

-- the state after the history of a script, where each group has so many living tasks and open handles
abbrev pub state : Script → List Event → (ℕ → ℕ) → (ℕ → ℕ) → State
state S K living handles =
    record { map = S.map; rlimit = S.rlimit; made = groups_made K; living = living; handles = handles; contents = contents S K }

-- the groups stand for this history
abbrev pub StandsFor : Script → List Event → (ℕ → ℕ) → (ℕ → ℕ) → Groups → Type 0
StandsFor S K living handles G = Holds (state S K living handles) G

-- ---- events of tasks and workers

-- the event makes a task of this kind
pub record IsSpawn (e : Event) (kind : SpawnKind) : Type 0 where
  pub name : Name
  pub pid : ℕ
  pub is : e.what ≡ Spawn name (Ok (pid, kind))

-- the event makes a task with a new group
abbrev pub IsFresh : Event → Type 0
IsFresh e = IsSpawn e New

-- the event makes a task with a copy of the group of this ordinal, which is that of the task that takes the step
pub record IsCopyOf (K : List Event) (e : Event) (o : ℕ) : Type 0 where
  pub spawn : IsSpawn e Copied
  pub group : ℕ
  pub own : group_named K (task_name e.who) ≡ Some group
  pub at : group_of K o ≡ Some group

-- a task of the group of this ordinal stores bytes at an address
pub record IsPoke (K : List Event) (e : Event) (o a : ℕ) (bytes : List ℕ) : Type 0 where
  pub name : Name
  pub who : e.who ≡ Task name
  pub what : e.what ≡ Poke a bytes
  pub group : ℕ
  pub own : group_named K name ≡ Some group
  pub at : group_of K o ≡ Some group

-- a worker that has opened the memory of the group of this ordinal stores bytes at an address
pub record IsPlant (K : List Event) (e : Event) (o a : ℕ) (bytes : List ℕ) : Type 0 where
  pub worker : ℕ
  pub who : e.who ≡ Worker worker
  pub cap : Option Cap
  pub what : e.what ≡ Plant a bytes cap (Ok tt)
  pub group : ℕ
  pub own : mem K worker ≡ Some group
  pub at : group_of K o ≡ Some group

-- a task of the group at this place installs what was asked for, with this answer
pub record IsInstall (K : List Event) (e : Event) (g : ℕ) (asked : Addfd) (answer : Result ℕ ℕ) : Type 0 where
  pub what : e.what ≡ Install answer
  pub own : own_group K e.who ≡ g
  pub source : (request_for K (call_of K (task_name e.who))).srcfd ≡ asked.srcfd

-- ---- what a native call stores and sets

-- the bytes of a call that may store some, where it answers a value
abbrev pub bytes_done : Option (ℕ × List ℕ) → Result ℕ ℕ → Option (ℕ × List ℕ)
bytes_done bytes (Ok n) = bytes
bytes_done bytes (Err e) = None

abbrev pub slot_done : NativeStep → Option (ℕ × Option Obj)
slot_done (Opens n x) = Some (n, Some (Node (record { ordinal = x })))
slot_done (Closes n) = Some (n, None)
slot_done _ = None

-- ---- events that leave every group what it had

abbrev pub opens_or_closes : NativeStep → Bool
opens_or_closes (Opens n x) = true
opens_or_closes (Closes n) = true
opens_or_closes _ = false

-- the step makes no task but a thread, is no native call that opens or closes a number, and installs nothing
abbrev pub KeepsSlots : Script → List Event → Actor → What → Type 0
KeepsSlots S K who (Spawn name (Ok made)) = is_shared made.1 ≡ true
KeepsSlots S K who (Native (Ok n)) = opens_or_closes (native_step S K (files S K) (task_name who)) ≡ false
KeepsSlots S K who (Install (Ok n)) = ⊥
KeepsSlots S K who _ = Unit {0}

-- and stores nothing
pub record IsOther (S : Script) (K : List Event) (who : Actor) (what : What) : Type 0 where
  pub stores_none : stored S K who what ≡ None
  pub slots : KeepsSlots S K who what
