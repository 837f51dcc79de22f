-- The state that the definitions give a history.
use Rattle.std.specs.Prelude.{◌≡◌, ℕ, ◌+◌, Bool, true, ◌&&◌, not, List, length, take, Option, Some, None, slice_get, count_by}
use Rattle.hist_model.specs.Look.{Name}
use Rattle.hist_model.specs.Memory.{group_named, last_call}
use Rattle.hist_model.specs.Programs.{program, program_at, started}
use Rattle.hist_model.specs.Calls.{id}
use Rattle.hist_model.specs.Signals.{call_of}
use Rattle.hist_model.specs.Steps.{steps_of, counts, recounts, is_spawn, owes_native, pid_named}
use Rattle.hist_model.specs.Tasks.{ended, was_waited_for, has_parent, parent, last_pid, is_none}
use Rattle.hist_model.specs.declared.event.Entered.{Entered}
use Rattle.hist_model.specs.declared.event.Event.{Event}
use Rattle.hist_model.specs.declared.event.What.{What}
use Rattle.hist_model.specs.declared.event.What.TheVariants.{Enter, Skip}
use Rattle.hist_model.specs.declared.script.Instr.{Instr}
use Rattle.hist_model.specs.declared.script.Instr.TheVariants.{Call}
use Rattle.hist_model.specs.declared.script.Script.{Script}
use Rattle.history_frames.specs.Ordinals.{tasks_made, task_name_of, groups_made, group_of}
use Rattle.tasks.specs.Sets.{pending_of, dispositions_of}
use Rattle.tasks.specs.State.{Row, State, is_in_call}
use Rattle.tasks.specs.declared.row.EnteredCall.{EnteredCall}

-- the ordinal is that of the group of the task of this name
abbrev pub IsGroupOf : List Event → Name → ℕ → Type 0
IsGroupOf K n o = (g : ℕ) × (group_of K o ≡ Some g) × (group_named K n ≡ Some g)

-- the id of the call at a place, if there is one
abbrev pub id_at : List Event → Option ℕ → Option ℕ
id_at K (Some c) = Some (id K c)
id_at K None = None

-- the id of the listed call in which the task of this name waits
abbrev pub call_id : List Event → Name → Option ℕ
call_id K n = id_at K (call_of K n)

-- the step entered this call, whatever the filters said; Skip entered none
abbrev pub IsEntry : Option EnteredCall → What → Type 0
IsEntry (Some x) w = (verdict : Entered) × (w ≡ Enter x.nr x.args verdict)
IsEntry None w = w ≡ Skip

-- how many of the first instructions start a task
abbrev pub starts : Instr → Bool
starts i = not (is_none (started i))

unfoldable pub started_before : List Instr → ℕ → ℕ
started_before body k = count_by starts (take k body)

-- the instruction before this one is the call that was entered
abbrev pub IsBehindCall : List Instr → ℕ → Option EnteredCall → Type 0
IsBehindCall body next entered =
    (k : ℕ) × (x : EnteredCall) × (next ≡ k + 1) × (entered ≡ Some x) × (slice_get body k ≡ Some (Call x.nr x.args))

-- the row is that of the task of its name
pub record IsRow (S : Script) (K : List Event) (n : Name) (r : Row) : Type 0 where
  pub pid_is : r.pid ≡ pid_named K n
  pub group_is : IsGroupOf K n r.group
  pub program_is : program S n ≡ program_at S.programs (Some r.program)
  pub next_is : r.next + steps_of recounts K n ≡ steps_of counts K n
  pub starts_are : started_before (program S n) r.next ≡ steps_of is_spawn K n
  pub spawns_is : r.spawns ≡ steps_of is_spawn K n
  pub call_is : r.call ≡ call_id K n
  pub entered_is : IsEntry r.entered (last_call K n)
  pub owes_is : r.owes ≡ owes_native K n
  pub behind_call : is_in_call r ≡ true → IsBehindCall (program S n) r.next r.entered
  pub ended_is : r.ended ≡ ended K n
  pub waited_is : r.waited ≡ was_waited_for K n
  pub fostered_is : r.fostered ≡ (has_parent n && not (ended K (parent n)))
  pub pending_is : r.pending ≡ pending_of K n
  pub dispositions_is : r.dispositions ≡ dispositions_of K n

-- the row of the task of this ordinal
pub record IsRowOf (S : Script) (K : List Event) (o : ℕ) (r : Row) : Type 0 where
  pub name_is : r.name ≡ task_name_of K o
  pub is_row : IsRow S K r.name r

-- the state is that of the history of a script
pub record Looks (S : Script) (K : List Event) (s : State) : Type 0 where
  pub count : length s.rows ≡ tasks_made K
  pub rows : (o : ℕ) (r : Row) → slice_get s.rows o ≡ Some r → IsRowOf S K o r
  pub last_is : s.last ≡ last_pid S.pidbase K
  pub groups_is : s.groups ≡ groups_made K
