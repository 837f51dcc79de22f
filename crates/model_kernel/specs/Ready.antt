-- What a task's next step is and needs, as it was made ready.
use Rattle.std.specs.Prelude.{◌≡◌, ℕ, ◌<◌, ◌^◌, Bool, true, false, List, [], Option, Some, None, length, replicate, vec_capacity}
use Rattle.hist_model.specs.Memory.{group_named}
use Rattle.hist_model.specs.Signals.{call_of}
use Rattle.hist_model.specs.Steps.{instr_step, next_instr, owes_native}
use Rattle.hist_model.specs.Tasks.{ended}
use Rattle.hist_model.specs.declared.event.What.{What}
use Rattle.hist_model.specs.declared.script.Instr.{Instr}
use Rattle.hist_model.specs.declared.script.Instr.TheVariants as instr
use Rattle.model_kernel.specs.Stands.{HasNativeRoom}
use Rattle.tasks.specs.Stands.{HasRoom as HasTaskRoom, name_at, group_at}
use Rattle.native_calls.specs.Stands.{IsEntered}
use Rattle.native_calls.specs.declared.call.NativeCall.{NativeCall}
use Rattle.listener.specs.Table.{HasRoom as HasCallRoom}
use Rattle.task_groups.specs.Groups.{HasRoomFor}
use Rattle.model_kernel.specs.Kernels.{IsKernel, past, system}
use Rattle.model_kernel.specs.Steps.{WaitsIn, named}
use Rattle.model_kernel.specs.declared.kernel.Kernel.{Kernel}
use Rattle.model_kernel.specs.declared.ready.Next.{Next}
use Rattle.model_kernel.specs.declared.ready.Next.TheVariants.{Ended, Waiting, Owed, Runs}
use Rattle.model_kernel.specs.declared.ready.ReadyTask.{ReadyTask}

-- the next instruction of a task's program, if it has one
abbrev pub own_instr : Kernel → ℕ → Option Instr
own_instr k o = next_instr (system k) (past k) (named k o)

-- the step that it makes
abbrev pub own_step : Kernel → ℕ → What
own_step k o = instr_step (system k) (past k) (named k o) (own_instr k o)

-- the bytes that an instruction stores
abbrev pub stored_by : Option Instr → List ℕ
stored_by (Some (instr.Poke addr bytes)) = bytes
stored_by (Some (instr.Fill addr len byte)) = replicate len byte
stored_by i = []

-- the instruction makes a child, or waits for one
abbrev pub names_child : Option Instr → Bool
names_child (Some (instr.Spawn program)) = true
names_child (Some (instr.Thread program)) = true
names_child (Some instr.Wait) = true
names_child i = false

-- the instruction makes a child
abbrev pub makes_child : Option Instr → Bool
makes_child (Some (instr.Spawn program)) = true
makes_child (Some (instr.Thread program)) = true
makes_child i = false

-- the instruction waits for a child
abbrev pub is_wait : Option Instr → Bool
is_wait (Some instr.Wait) = true
is_wait i = false

-- where the next instruction of the task makes a child, that takes no memory
abbrev pub HasChildRoom : Kernel → ℕ → Type 0
HasChildRoom k o = makes_child (own_instr k o) ≡ true → HasTaskRoom k.tasks o

-- the next instruction of the task stores these bytes, and where it names a child, so many numbers are enough for its name
pub record IsSupplied (k : Kernel) (o : ℕ) (bytes : List ℕ) (numbers : ℕ) : Type 0 where
  pub bytes_are : stored_by (own_instr k o) ≡ bytes
  pub enough : names_child (own_instr k o) ≡ true → length (name_at k.tasks o) < numbers

-- the task owes this native call, whose arguments were read
pub record IsOwed (k : Kernel) (o : ℕ) (call : NativeCall) : Type 0 where
  pub owes : owes_native (past k) (named k o) ≡ true
  pub entered : (g : ℕ) → group_named (past k) (named k o) ≡ Some g → IsEntered k.script (past k) (named k o) g call

-- this is what the task has next
abbrev pub IsNext : Kernel → ℕ → Next → Type 0
IsNext k o Ended = ended (past k) (named k o) ≡ true
IsNext k o (Waiting id) = (ended (past k) (named k o) ≡ false) × ((c : ℕ) × WaitsIn k o c id)
IsNext k o (Owed call) = (ended (past k) (named k o) ≡ false) × (call_of (past k) (named k o) ≡ None) × IsOwed k o call.value
IsNext k o (Runs bytes room) = (ended (past k) (named k o) ≡ false) × (call_of (past k) (named k o) ≡ None)
    × (owes_native (past k) (named k o) ≡ false) × IsSupplied k o bytes (vec_capacity room)

-- how many bytes the step stores of its own
abbrev pub stored_bytes : Next → ℕ
stored_bytes (Runs bytes room) = length bytes
stored_bytes next = 0

-- the group, the queue and the tree have room for it
abbrev pub HasNextRoom : Kernel → ℕ → Next → Type 0
HasNextRoom k o Ended = Unit {0}
HasNextRoom k o (Owed call) = HasNativeRoom k.resources (group_at k.tasks o) call.value
HasNextRoom k o next = HasRoomFor k.resources.groups (group_at k.tasks o) (stored_bytes next) × HasCallRoom k.resources.listener.queue

-- the task's next step was made ready: it takes no memory
pub record IsReadyFor (k : Kernel) (o : ℕ) (r : ReadyTask) : Type 0 where
  -- the history can be counted, and has room for one more event
  pub few : length (past k) < 2 ^ 64
  pub event : 0 < k.history.spare
  pub name : r.name ≡ named k o
  pub tasks : HasChildRoom k o
  pub next : IsNext k o r.next
  pub resources : HasNextRoom k o r.next

-- the kernel has perhaps more room, and is otherwise as it was
pub record IsSame (old new : Kernel) : Type 0 where
  pub kernel : IsKernel new
  pub script : new.script ≡ old.script
  pub past_is : past new ≡ past old
