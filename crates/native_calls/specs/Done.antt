-- What a native call's step does to the tree and to the groups.
use Rattle.std.specs.Prelude.{◌≡◌, ℕ, ◌+◌, false, List, length, Option, Some, None, Result, ℤ}
use Rattle.hist_model.specs.Trees.{Tree}
use Rattle.hist_model.specs.Effects.{is_cloexec}
use Rattle.hist_model.specs.Files.{files}
use Rattle.hist_model.specs.Natives as natives
use Rattle.hist_model.specs.Natives.{NativeStep, Changes, native_answer, base_of, request_natively}
use Rattle.hist_model.specs.declared.event.Event.{Event}
use Rattle.hist_model.specs.declared.request.Request.{Request}
use Rattle.hist_model.specs.declared.request.Request.TheVariants.{Mknod, SetXattr, OpenAt}
use Rattle.hist_model.specs.declared.script.Script.{Script}
use Rattle.history_frames.specs.Ordinals.{group_of}
use Rattle.task_groups.specs.Groups.{Holds}
use Rattle.task_groups.specs.Rows.{IsSound, SetsMark}
use Rattle.task_groups.specs.Stands.{StandsFor, bytes_done, slot_done, opens_or_closes, state}
use Rattle.task_groups.specs.State.{State, with_change}
use Rattle.task_groups.specs.declared.groups.Groups.{Groups}

-- the tree is the changed one, where the step changes it
abbrev pub TreeDone : NativeStep → Tree → Tree → Type 0
TreeDone (Changes T) old new = new ≡ T
TreeDone _ old new = new ≡ old

-- a step over the tree alone was answered and done
pub record TreeRun (step : NativeStep) (answer : Result ℕ ℕ) (old new : Tree) : Type 0 where
  pub answer_is : answer ≡ native_answer step
  pub tree : TreeDone step old new
  pub quiet : opens_or_closes step ≡ false

-- a step over the groups alone, which may store bytes
pub record GroupsRun (s : State) (o : ℕ) (bytes : Option (ℕ × List ℕ))
    (step : NativeStep) (answer : Result ℕ ℕ) (new : Groups) : Type 0 where
  pub answer_is : answer ≡ native_answer step
  pub groups : Holds (with_change o (bytes_done bytes answer) (slot_done step) s) new
  pub quiet : (T : Tree) → TreeDone step T T

-- a step over both
pub record StepRun (s : State) (o : ℕ) (bytes : Option (ℕ × List ℕ))
    (step : NativeStep) (answer : Result ℕ ℕ) (T U : Tree) (new : Groups) : Type 0 where
  pub answer_is : answer ≡ native_answer step
  pub tree : TreeDone step T U
  pub groups : Holds (with_change o (bytes_done bytes answer) (slot_done step) s) new

-- a request was run for every history for which the groups and the tree stand
abbrev pub RequestRun : ℕ → ℕ → ℤ → Request → Result ℕ ℕ → Tree → Tree → Groups → Groups → Type 0
RequestRun root o dirfd q answer T U old new =
    (S : Script) (K : List Event) (living handles : ℕ → ℕ) (g : ℕ) → StandsFor S K living handles old
    → group_of K o ≡ Some g → T ≡ (files S K).tree → root ≡ natives.root S
    → StepRun (state S K living handles) o None (request_natively S (files S K) g (base_of S (files S K) g dirfd) q) answer T U new

-- the room in the tree with which a request of a task takes no memory
abbrev pub room_natively : Request → ℕ
room_natively (Mknod dirfd path mode dev) = 256
room_natively (SetXattr path name value flags) = length name + length value + 1
room_natively _ = 0

-- the close-on-exec marks after a request of a task: that of an openat has the mark that its flags ask for
abbrev pub RequestMarks : ℕ → Request → ℕ → Groups → Groups → Type 0
RequestMarks o (OpenAt dirfd path flags) n old new = IsSound old → SetsMark old o n (Some (is_cloexec flags)) new
RequestMarks o _ n old new = new ≡ old
