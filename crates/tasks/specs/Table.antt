-- What is kept of the tasks, but for room, and the state that it is.
use Rattle.std.specs.Prelude.{◌≡◌, ℕ, ◌+◌, ◌-◌, ◌<◌, ◌^◌, Bool, true, false, ◌&&◌, not, if◌then◌else◌, List, [], ◌∷◌, ◌++◌, length, map}
use Rattle.std.specs.Prelude.{set, slice_get, count_by, Option, Some, None, Contains}
use Rattle.std.specs.List.{remove}
use Rattle.hist_model.specs.Look.{Name}
use Rattle.hist_model.specs.declared.event.Actor.TheVariants.{Task as TaskActor}
use Rattle.hist_model.specs.declared.event.Disposition.{Disposition}
use Rattle.hist_model.specs.declared.event.Event.{Event}
use Rattle.hist_model.specs.declared.event.What.{What}
use Rattle.hist_model.specs.declared.script.Script.{Script}
use Rattle.history_frames.specs.Ordinals.{groups_made}
use Rattle.tasks.specs.Fold.{Looks}
use Rattle.sorted_list.specs.Entries.{NumbersRise, IsSet}
use Rattle.tasks.specs.Index.{entry_key, under}
use Rattle.tasks.specs.Rows.{IsAfter, new_progress}
use Rattle.tasks.specs.Sets.{with_signal}
use Rattle.tasks.specs.Sound.{IsSound}
use Rattle.tasks.specs.State.{Row, State, is_reaped, after_row}
use Rattle.tasks.specs.declared.index.Entry.{Entry}
use Rattle.tasks.specs.declared.row.Progress.{Progress}
use Rattle.tasks.specs.declared.row.Task.{Task}
use Rattle.tasks.specs.declared.signals.BySignal.{BySignal}
use Rattle.tasks.specs.declared.table.Tasks.{Tasks}

-- a task: its name, PID and parent, an entry for each of its spawns, the children that it may wait for, and how far it is
pub record Member : Type 0 where
  pub name : Name
  pub pid : ℕ
  pub parent : Option ℕ
  pub children : List (Option ℕ)
  pub waiting : List ℕ
  pub progress : Progress

-- the tasks by ordinal, the task that was given each PID last, the bounds of PIDs and the last one, and how many tasks live
pub record Table : Type 0 where
  pub tasks : List Member
  pub pids : List Entry
  pub base : ℕ
  pub top : ℕ
  pub last : ℕ
  pub living : ℕ

abbrev pub member : Task → Member
member t =
    record { name = t.name; pid = t.pid; parent = t.parent; children = t.children.items; waiting = t.waiting.items; progress = t.progress }

abbrev pub members : List Task → List Member
members tasks = map member tasks

abbrev pub table_of : Tasks → Table
table_of T = record { tasks = members T.tasks.items; pids = T.pids.items; base = T.base; top = T.top; last = T.last; living = T.living }

-- the task of an ordinal
abbrev pub task_at : Table → ℕ → Option Member
task_at T o = slice_get T.tasks o

-- ---- the rows

abbrev pub lives : Option Member → Bool
lives (Some t) = not t.progress.ended
lives None = false

-- the task of an ordinal, if there is one, lives
abbrev pub lives_at : List Member → Option ℕ → Bool
lives_at tasks (Some q) = lives (slice_get tasks q)
lives_at tasks None = false

-- the row of a task that has a parent that lives, or none
abbrev pub row_of : Bool → Member → Row
row_of fostered t = record {
  name = t.name;
  pid = t.pid;
  group = t.progress.group;
  program = t.progress.program;
  next = t.progress.next;
  spawns = length t.children;
  call = t.progress.call;
  entered = t.progress.entered;
  owes = t.progress.owes;
  ended = t.progress.ended;
  waited = t.progress.waited;
  fostered = fostered;
  pending = t.progress.pending;
  dispositions = t.progress.dispositions;
}

abbrev pub row_in : List Member → Member → Row
row_in tasks t = row_of (lives_at tasks t.parent) t

abbrev pub rows_of : List Member → List Row
rows_of tasks = map (row_in tasks) tasks

-- the state that a table is, where so many groups were made
abbrev pub view : Table → ℕ → State
view T groups = record { rows = rows_of T.tasks; last = T.last; groups = groups }

-- ---- what holds of a table

-- the task is the first one, or a child of another, under its number there
abbrev pub IsChildIn : List Member → ℕ → Option ℕ → Name → Type 0
IsChildIn tasks o None n = n ≡ 0 ∷ []
IsChildIn tasks o (Some q) n =
    (p : Member) × (slice_get tasks q ≡ Some p) × (k : ℕ) × (slice_get p.children k ≡ Some (Some o)) × (n ≡ p.name ++ (k + 1) ∷ [])

-- names differ, each task stands among its parent's children, and those are tasks
pub record IsFamily (tasks : List Member) : Type 0 where
  pub names : (o p : ℕ) (t u : Member) → slice_get tasks o ≡ Some t → slice_get tasks p ≡ Some u → t.name ≡ u.name → o ≡ p
  pub parents : (o : ℕ) (t : Member) → slice_get tasks o ≡ Some t → IsChildIn tasks o t.parent t.name
  pub children : (o k p : ℕ) (t : Member) → slice_get tasks o ≡ Some t → slice_get t.children k ≡ Some (Some p)
      → (u : Member) × (slice_get tasks p ≡ Some u) × (u.parent ≡ Some o) × (u.name ≡ t.name ++ (k + 1) ∷ [])

-- each entry is that of a task that was given the PID, and each task that holds its PID has one
pub record IsIndexed (tasks : List Member) (pids : List Entry) : Type 0 where
  pub ordered : NumbersRise entry_key pids
  pub listed : (e : Entry) → Contains pids e → (t : Member) × (slice_get tasks e.task ≡ Some t) × (t.pid ≡ e.key)
  pub whole : (o : ℕ) (t : Member) → slice_get tasks o ≡ Some t → is_reaped (row_in tasks t) ≡ false → Contains pids (under t.pid o)

-- the ordinals rise
abbrev pub AreRising : List ℕ → Type 0
AreRising xs = (j k a b : ℕ) → j < k → slice_get xs j ≡ Some a → slice_get xs k ≡ Some b → a < b

-- they are those of the children for which the task of this ordinal hasn't waited, in order
pub record AreWaiting (tasks : List Member) (o : ℕ) (waiting : List ℕ) : Type 0 where
  pub rising : AreRising waiting
  pub listed : (k a : ℕ) → slice_get waiting k ≡ Some a
      → (t : Member) × (slice_get tasks a ≡ Some t) × (t.parent ≡ Some o) × (t.progress.waited ≡ false)
  pub whole : (a : ℕ) (t : Member) → slice_get tasks a ≡ Some t → t.parent ≡ Some o
      → t.progress.waited ≡ false → (k : ℕ) × (slice_get waiting k ≡ Some a)

abbrev pub is_living : Member → Bool
is_living t = not t.progress.ended

-- the parts of a table belong together
pub record IsWhole (T : Table) : Type 0 where
  pub family : IsFamily T.tasks
  pub indexed : IsIndexed T.tasks T.pids
  pub waiting : (o : ℕ) (t : Member) → slice_get T.tasks o ≡ Some t → AreWaiting T.tasks o t.waiting
  pub living : T.living ≡ count_by is_living T.tasks

-- ---- what the calls make of a table

abbrev pub with_progress : Member → Progress → Member
with_progress t p = record t { progress = p }

-- a task's progress was put in its row
abbrev pub with_task : Table → ℕ → Member → Table
with_task T o t = record T { tasks = set T.tasks o t }

-- and so was what is made of a task, where there is one
pub record IsWritten (old : Table) (o : ℕ) (made : Member → Member) (new : Table) : Type 0 where
  pub some : (t : Member) → task_at old o ≡ Some t → new ≡ with_task old o (made t)
  pub none : task_at old o ≡ None → new ≡ old

abbrev pub marked : Progress → ℕ → Progress
marked p sig = record p { pending = with_signal p.pending sig true }

abbrev pub waited_for : Progress → Progress
waited_for p = record p { waited = true }

abbrev pub with_one_less : Table → Bool → Table
with_one_less T ends = record T { living = if ends then T.living - 1 else T.living }

-- a task's own step was noted
pub record IsNoted (old : Table) (o : ℕ) (w : What) (new : Table) : Type 0 where
  pub task : (t : Member) → task_at old o ≡ Some t
      → (p : Progress) × IsAfter t.progress w p
      × (new ≡ with_one_less (with_task old o (with_progress t p)) (p.ended && not t.progress.ended))
  pub none : task_at old o ≡ None → new ≡ old

-- a child, which the task may wait for, or none was added to its entries
abbrev pub with_waiting : List ℕ → Option ℕ → List ℕ
with_waiting waiting (Some o) = waiting ++ o ∷ []
with_waiting waiting None = waiting

abbrev pub with_entry : Member → Option ℕ → Member
with_entry t entry = record t { children = t.children ++ entry ∷ []; waiting = with_waiting t.waiting entry }

-- the name of its next child
abbrev pub next_name : Member → Name
next_name t = t.name ++ (length t.children + 1) ∷ []

abbrev pub new_member : Name → ℕ → Option ℕ → ℕ → ℕ → BySignal Disposition → Member
new_member name pid parent group program dispositions = record {
  name = name;
  pid = pid;
  parent = parent;
  children = [];
  waiting = [];
  progress = new_progress group program dispositions;
}

-- a task was added, with this ordinal, after these
pub record IsAdded (old : Table) (before : List Member) (o : ℕ) (t : Member) (new : Table) : Type 0 where
  pub tasks : new.tasks ≡ before ++ t ∷ []
  pub pids : NumbersRise entry_key old.pids → IsSet entry_key old.pids t.pid (Some (under t.pid o)) new.pids
  pub base : new.base ≡ old.base
  pub top : new.top ≡ old.top
  pub last : new.last ≡ t.pid
  pub living : old.living + 1 < 2 ^ 64 → new.living ≡ old.living + 1

-- a child was added
abbrev pub IsChildAdded : Table → ℕ → ℕ → ℕ → ℕ → Table → Type 0
IsChildAdded old parent pid group program new = (t : Member) → task_at old parent ≡ Some t
    → IsAdded old (set old.tasks parent (with_entry t (Some (length old.tasks)))) (length old.tasks)
    (new_member (next_name t) pid (Some parent) group program t.progress.dispositions) new

-- a child was taken from those for which a task may wait
abbrev pub without_waiting : Member → ℕ → Member
without_waiting t k = record t { waiting = remove t.waiting k }

-- the place of a child for which the task of this ordinal may wait and which has ended
abbrev pub IsEndedAt : Table → ℕ → ℕ → Type 0
IsEndedAt T o k = (t : Member) × (task_at T o ≡ Some t) × (a : ℕ) × (slice_get t.waiting k ≡ Some a) × (lives_at T.tasks (Some a) ≡ false)

-- ---- what the table stands for

-- the task of this ordinal took this step, which makes no task
pub record IsStepped (old : Table) (o : ℕ) (w : What) (new : Table) : Type 0 where
  pub whole : IsWhole new
  pub rows : (t : Member) → task_at old o ≡ Some t → rows_of new.tasks ≡ map (after_row (TaskActor t.name) w) (rows_of old.tasks)
  pub last : new.last ≡ old.last
  pub base : new.base ≡ old.base
  pub top : new.top ≡ old.top

pub record IsTableOf (S : Script) (K : List Event) (T : Table) : Type 0 where
  pub base_is : T.base ≡ S.pidbase
  pub top_is : T.top ≡ S.pidbase + S.pidmax
  pub looks : Looks S K (view T (groups_made K))
  pub sound : IsSound K
  pub whole : IsWhole T
