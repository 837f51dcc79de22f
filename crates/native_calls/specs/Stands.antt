-- What a native call finds, and what stands after it.
use Rattle.std.specs.Prelude.{◌≡◌, ℕ, ◌≤◌, List, Some, None, Result, Ok, ℤ}
use Rattle.hist_model.specs.Look.{Name}
use Rattle.hist_model.specs.Files.{files}
use Rattle.hist_model.specs.Memory.{group_named, last_call}
use Rattle.hist_model.specs.Natives as natives
use Rattle.hist_model.specs.Steps.{pid_named}
use Rattle.hist_model.specs.Trees.{Tree}
use Rattle.hist_model.specs.declared.event.Entered.{Entered}
use Rattle.hist_model.specs.declared.event.Event.{Event}
use Rattle.hist_model.specs.declared.event.What.TheVariants.{Enter}
use Rattle.hist_model.specs.declared.script.Script.{Script}
use Rattle.history_frames.specs.Ordinals.{group_of}
use Rattle.task_groups.specs.Groups.{HasStoreRoom}
use Rattle.task_groups.specs.Rows.{IsSound, SetsMark, SameMarks, HasDescriptorRoom}
use Rattle.task_groups.specs.Stands.{StandsFor, state}
use Rattle.task_groups.specs.declared.groups.Groups.{Groups}
use Rattle.native_calls.specs.declared.call.NativeCall.{NativeCall}
use Rattle.native_calls.specs.declared.call.NativeCall.TheVariants.{Close, Sysinfo, Request}
use Rattle.native_calls.specs.declared.running.Caller.{Caller}
use Rattle.native_calls.specs.declared.running.Container.{Container}
use Rattle.native_calls.specs.Done.{StepRun, RequestMarks, room_natively}
use Rattle.native_calls.specs.Prepared.{IsPrepared, step_of, stored_by}

-- the tree and the groups stand for the history of a script
pub record StandFor (S : Script) (K : List Event) (living handles : ℕ → ℕ) (tree : Tree) (groups : Groups) : Type 0 where
  pub tree_is : tree ≡ (files S K).tree
  pub groups_stand : StandsFor S K living handles groups

-- these are the container's root and figures
pub record IsContainer (S : Script) (c : Container) : Type 0 where
  pub root_is : c.root.ordinal ≡ natives.root S
  pub figures_are : S.figures ≡ c.figures

-- the caller is the task of this name, of the group at this place
pub record IsCaller (K : List Event) (n : Name) (g : ℕ) (c : Caller) : Type 0 where
  pub named : group_named K n ≡ Some g
  pub group_is : group_of K c.group ≡ Some g
  pub pid_is : c.pid ≡ pid_named K n

-- the task of this name, in a group, has entered this call last
pub record IsEntered (S : Script) (K : List Event) (n : Name) (g : ℕ) (call : NativeCall) : Type 0 where
  pub nr : ℤ
  pub args : List ℕ
  pub verdict : Entered
  pub last : last_call K n ≡ Enter nr args verdict
  pub prepared : IsPrepared S K g nr args call

-- after this history the task of this name makes the call
pub record IsDue (S : Script) (K : List Event) (living handles : ℕ → ℕ) (n : Name) (container : Container)
    (caller : Caller) (call : NativeCall) (tree : Tree) (groups : Groups) : Type 0 where
  pub group : ℕ
  pub stand : StandFor S K living handles tree groups
  pub container_is : IsContainer S container
  pub caller_is : IsCaller K n group caller
  pub entered : IsEntered S K n group call

-- the call was answered, and its step was done, for every history for which the tree and the groups stand
abbrev pub IsRun : Container → Caller → NativeCall → Result ℕ ℕ → Tree → Tree → Groups → Groups → Type 0
IsRun container caller call answer T U old new =
    (S : Script) (K : List Event) (living handles : ℕ → ℕ) (n : Name) (g : ℕ)
    → StandFor S K living handles T old → IsContainer S container → IsCaller K n g caller
    → StepRun (state S K living handles) caller.group (stored_by S call) (step_of S K (files S K) n g call) answer T U new

-- the close-on-exec marks after a call of a group that succeeded with this answer
abbrev pub MarksDone : NativeCall → ℕ → ℕ → Groups → Groups → Type 0
MarksDone (Close number) o m old new = IsSound old → SetsMark old o number None new
MarksDone (Request dirfd (Ok q)) o m old new = RequestMarks o q m old new
MarksDone (Sysinfo addr) o m old new = IsSound old → SameMarks old o new
MarksDone _ o m old new = new ≡ old

-- the room in the tree with which a call takes no memory
abbrev pub room_of : NativeCall → ℕ
room_of (Request dirfd (Ok q)) = room_natively q
room_of _ = 0

-- there is room for the call of a task of a group: it takes no memory
pub record IsReady (call : NativeCall) (o spare : ℕ) (groups : Groups) : Type 0 where
  pub tree : room_of call ≤ spare
  pub memory : HasStoreRoom groups o 112
  pub descriptor : HasDescriptorRoom groups o
