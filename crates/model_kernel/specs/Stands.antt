-- Which histories the tables stand for that tasks and workers use.
use Rattle.std.specs.Prelude.{◌≡◌, ℕ, ◌<◌, Bool, List, length, Option, Some, None, Ok}
use Rattle.std.specs.List.{count_by}
use Rattle.hist_model.specs.Files.{files}
use Rattle.hist_model.specs.Legal.{is_open_session, tree}
use Rattle.hist_model.specs.Look.{is_place}
use Rattle.hist_model.specs.Sessions.{session}
use Rattle.hist_model.specs.Steps.{mem, times_spent}
use Rattle.hist_model.specs.Trees.{ordinal_of}
use Rattle.hist_model.specs.declared.event.Event.{Event}
use Rattle.hist_model.specs.declared.event.What.{What}
use Rattle.hist_model.specs.declared.event.What.TheVariants.{Act, Plant}
use Rattle.hist_model.specs.declared.policy.Cap.{Cap}
use Rattle.hist_model.specs.declared.script.Script.{Script}
use Rattle.history_frames.specs.Ordinals.{group_of}
use Rattle.task_groups.specs.Groups.{HasStoreRoom}
use Rattle.task_groups.specs.Stands as groups
use Rattle.task_groups.specs.State.{one_less}
use Rattle.listener.specs.Stands as listener
use Rattle.native_calls.specs.Stands.{IsContainer, IsReady}
use Rattle.native_calls.specs.declared.call.NativeCall.{NativeCall}
use Rattle.model_kernel.specs.Rows.{row_of}
use Rattle.model_kernel.specs.Spent as times
use Rattle.model_kernel.specs.declared.resources.Resources.{Resources}
use Rattle.model_kernel.specs.declared.rows.WorkerRow.{WorkerRow}
use Rattle.model_kernel.specs.declared.spent.SpentRows.{SpentRows}

-- ---- what workers have open, and the caps

-- the memory that is open is that of the group with this ordinal; without an ordinal none is open
abbrev pub IsMemory : List Event → Option ℕ → Option ℕ → Type 0
IsMemory K memory (Some ordinal) = (group : ℕ) × (memory ≡ Some group) × (group_of K ordinal ≡ Some group)
IsMemory K memory None = memory ≡ None

-- what the definitions say of a worker
pub record IsRow (S : Script) (K : List Event) (w : ℕ) (row : WorkerRow) : Type 0 where
  pub base_is : (files S K).base w ≡ ordinal_of row.base
  pub memory_is : IsMemory K (mem K w) row.memory
  pub session_is : row.has_session ≡ is_open_session (session K w)

-- the rows of the workers 0 to 16 stand for the history of a script, and no other worker has anything
pub record AreRows (S : Script) (K : List Event) (rows : List WorkerRow) : Type 0 where
  pub whole : length rows ≡ 17
  pub workers : (w : ℕ) → IsRow S K w (row_of rows w)

-- the cap under which the step is an effect that was done
abbrev pub cap_spent : What → Option Cap
cap_spent (Act request cap (Ok u)) = cap
cap_spent (Plant addr bytes cap (Ok u)) = cap
cap_spent what = None

-- the times stand for the history
abbrev pub AreTimes : List Event → SpentRows → Type 0
AreTimes K T = (rule : ℕ) → times.times_in T rule ≡ times_spent K rule

-- ---- all of them

-- how many workers have the memory of a group open
abbrev pub has_memory : ℕ → WorkerRow → Bool
has_memory g row = is_place row.memory g

unfoldable pub memories_in : List WorkerRow → ℕ → ℕ
memories_in rows g = count_by (has_memory g) rows

-- the tables stand for the history of a script, where each group has so many living tasks
pub record StandsFor (S : Script) (K : List Event) (living : ℕ → ℕ) (R : Resources) : Type 0 where
  pub groups : groups.StandsFor S K living (memories_in R.workers) R.groups
  pub listener : listener.StandsFor S.firstid K R.listener
  pub tree_is : R.tree.tree ≡ tree S K
  pub workers : AreRows S K R.workers
  pub spent : AreTimes K R.spent
  pub container : IsContainer S R.container

-- the group is one of which somebody has the memory open, if there is a group
abbrev pub IsOneOf : (ℕ → ℕ) → Option ℕ → Type 0
IsOneOf handles (Some g) = 0 < handles g
IsOneOf handles None = Unit {0}

-- one less has it open
abbrev pub without : (ℕ → ℕ) → Option ℕ → ℕ → ℕ
without handles (Some g) = one_less handles g
without handles None = handles

-- ---- room

-- storing the answer of sysinfo in the memory that a worker has open, and noting it under a cap, takes no memory
pub record HasPlantRoom (R : Resources) (w : ℕ) (cap : Option Cap) : Type 0 where
  pub memory : (g : ℕ) → (row_of R.workers w).memory ≡ Some g → HasStoreRoom R.groups g 112
  pub spent : times.HasRoom R.spent cap

-- a native call of a task of the group takes no memory
pub record HasNativeRoom (R : Resources) (o : ℕ) (call : NativeCall) : Type 0 where
  pub ready : IsReady call o R.tree.spare R.groups
