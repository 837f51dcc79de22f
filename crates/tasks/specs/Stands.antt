-- Which histories the tasks of a kernel stand for, and what is told of them.
use Rattle.std.specs.Prelude.{◌≡◌, ℕ, ◌+◌, ◌<◌, ◌^◌, Bool, true, false, ◌&&◌, not, if◌then◌else◌, ◌==◌, List, [], length, count_by, Option}
use Rattle.std.specs.Prelude.{Some, None, slice_get, vec_len, vec_capacity}
use Rattle.hist_model.specs.Kinds.{ends, makes}
use Rattle.hist_model.specs.Legal.{system_of}
use Rattle.hist_model.specs.Look.{Name}
use Rattle.hist_model.specs.Programs.{started}
use Rattle.hist_model.specs.Signals.{effect_in_call, effect_outside}
use Rattle.hist_model.specs.Steps.{next_instr, nr_in, args_in}
use Rattle.hist_model.specs.Tasks.{holder, disposition}
use Rattle.hist_model.specs.declared.event.Delivered.{Delivered}
use Rattle.hist_model.specs.declared.event.Disposition.{Disposition}
use Rattle.hist_model.specs.declared.event.Event.{Event}
use Rattle.hist_model.specs.declared.event.SpawnKind.{SpawnKind}
use Rattle.hist_model.specs.declared.event.SpawnKind.TheVariants.{New, Copied, Shared}
use Rattle.hist_model.specs.declared.event.What.{What}
use Rattle.hist_model.specs.declared.event.What.TheVariants.{Deliver, Reap, Skip}
use Rattle.hist_model.specs.declared.script.Instr.{Instr}
use Rattle.hist_model.specs.declared.script.Script.{Script}
use Rattle.history_frames.specs.Ordinals.{tasks_made, place_of, task_name_of, groups_made}
use Rattle.tasks.specs.Fold.{IsGroupOf}
use Rattle.tasks.specs.Sound.{IsStepOf}
use Rattle.tasks.specs.Table.{Member, Table, task_at, table_of, is_living, IsTableOf}
use Rattle.tasks.specs.declared.row.EnteredCall.{EnteredCall}
use Rattle.tasks.specs.declared.row.Task.{Task}
use Rattle.tasks.specs.declared.table.Tasks.{Tasks}

-- the tasks stand for the history of a script
pub record StandsFor (S : Script) (K : List Event) (T : Tasks) : Type 0 where
  pub is_table : IsTableOf S K (table_of T)

-- all but the room is as before
abbrev pub SameTasks : Tasks → Tasks → Type 0
SameTasks old new = table_of new ≡ table_of old

-- ---- one task

abbrev pub name_in : Option Member → Name
name_in (Some t) = t.name
name_in None = []

abbrev pub group_in : Option Member → ℕ
group_in (Some t) = t.progress.group
group_in None = 0

abbrev pub ended_in : Option Member → Bool
ended_in (Some t) = t.progress.ended
ended_in None = true

-- the name of the task of this ordinal, its group, and whether it has ended; a task that isn't there counts as ended
abbrev pub name_at : Tasks → ℕ → Name
name_at T o = name_in (task_at (table_of T) o)

abbrev pub group_at : Tasks → ℕ → ℕ
group_at T o = group_in (task_at (table_of T) o)

abbrev pub ended_at : Tasks → ℕ → Bool
ended_at T o = ended_in (task_at (table_of T) o)

-- ---- counts

abbrev pub lives_in : ℕ → Member → Bool
lives_in g t = not t.progress.ended && (t.progress.group == g)

abbrev pub living_among : Table → ℕ → ℕ
living_among T g = count_by (lives_in g) T.tasks

-- how many tasks were made, how many haven't ended, and how many of a group haven't
abbrev pub made : Tasks → ℕ
made T = length (table_of T).tasks

unfoldable pub living : Tasks → ℕ
living T = count_by is_living (table_of T).tasks

unfoldable pub living_in : Tasks → ℕ → ℕ
living_in T g = living_among (table_of T) g

-- 1 where the step ends the task of this ordinal, which is of this group, else 0
abbrev pub one_ended : Tasks → ℕ → What → ℕ → ℕ
one_ended T o w g = if ends w && (not (ended_at T o) && (group_at T o == g)) then 1 else 0

-- 1 where the group is this one, else 0
abbrev pub one_if : ℕ → ℕ → ℕ
one_if group g = if group == g then 1 else 0

-- 1 where the step makes a task and its group is this one, else 0
abbrev pub one_made : What → ℕ → ℕ → ℕ
one_made w group g = if makes w then one_if group g else 0

-- ---- room

-- two more entries of this task take no memory
abbrev pub HasEntryRoom : Option Task → Type 0
HasEntryRoom (Some t) = (vec_len t.children < vec_capacity t.children) × (vec_len t.waiting < vec_capacity t.waiting)
HasEntryRoom None = ⊥

-- the next child of this task has a number
abbrev pub HasNumber : Option Member → Type 0
HasNumber (Some t) = length t.children + 1 < 2 ^ 32
HasNumber None = ⊥

-- one more spawn of this task takes no memory
pub record HasRoom (T : Tasks) (o : ℕ) : Type 0 where
  pub number : HasNumber (task_at (table_of T) o)
  pub ordinal : vec_len T.tasks + 1 < 2 ^ 32
  pub task : vec_len T.tasks < vec_capacity T.tasks
  pub pid : vec_len T.pids < vec_capacity T.pids
  pub entry : HasEntryRoom (slice_get T.tasks.items o)
  pub name : vec_len T.spare + length (name_at T o) < vec_capacity T.spare

-- ---- steps

-- what a signal does to a task, in a listed call or elsewhere
abbrev pub effect_of : Bool → ℕ → Disposition → Delivered
effect_of true sig m = effect_in_call sig m
effect_of false sig m = effect_outside sig m

-- the delivery of the signal that is due, if one is
abbrev pub delivery : List Event → Name → Bool → Option ℕ → Option What
delivery K n in_call (Some sig) = Some (Deliver sig (effect_of in_call sig (disposition K n sig)))
delivery K n in_call None = None

-- the step, and another one where there is none
abbrev pub step_or : Option What → What → What
step_or (Some w) other = w
step_or None other = other

-- the step, and Skip where there is none
abbrev pub step_of : Option What → What
step_of w = step_or w Skip

-- the step is a wait that answers
abbrev pub IsReap : What → Type 0
IsReap (Reap a) = Unit {0}
IsReap w = ⊥

-- the entered call is that of the event at a place
abbrev pub IsEnteredAt : Option EnteredCall → Option Event → Type 0
IsEnteredAt (Some x) e = (x.nr ≡ nr_in e) × (x.args ≡ args_in e)
IsEnteredAt None e = ⊥

-- the task of this ordinal holds the PID
abbrev pub IsHolder : List Event → ℕ → ℕ → Type 0
IsHolder K p o = (o < tasks_made K) × (t : ℕ) × (holder K p ≡ Some t) × (place_of K o ≡ Some t)

-- the group of a new task has this ordinal: it is a new one, or that of the task that makes it
abbrev pub IsNewGroup : List Event → Name → SpawnKind → ℕ → Type 0
IsNewGroup K n Copied group = group ≡ groups_made K
IsNewGroup K n Shared group = IsGroupOf K n group
IsNewGroup K n New group = ⊥

-- the event is a spawn of the task of this ordinal, whose next instruction starts this program, in this group
pub record IsSpawn (S : Script) (K : List Event) (e : Event) (o : ℕ) (kind : SpawnKind) (group program : ℕ) : Type 0 where
  pub own : IsStepOf S K e o
  pub instr : Instr
  pub next : next_instr (system_of S) K (task_name_of K o) ≡ Some instr
  pub starts_is : started instr ≡ Some program
  pub group_is : IsNewGroup K (task_name_of K o) kind group
