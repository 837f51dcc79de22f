-- The state of the tasks as a value, and what each event makes of it.
use Rattle.std.specs.Prelude.{ℕ, ◌+◌, ◌-◌, Bool, true, false, ◌&&◌, ◌||◌, not, if◌then◌else◌, ◌==◌, List, [], ◌∷◌, ◌++◌, length, map, find}
use Rattle.std.specs.Prelude.{slice_get, Option, Some, None, Ok, Err}
use Rattle.hist_model.specs.Kinds.{ends, owes, skips}
use Rattle.hist_model.specs.Look.{Name, name_eq, is_task, task_name}
use Rattle.hist_model.specs.Programs.{program_at, started}
use Rattle.hist_model.specs.Steps.{counts, recounts, is_spawn}
use Rattle.hist_model.specs.Tasks.{reaps, parent, has_parent, given, or_number}
use Rattle.hist_model.specs.declared.event.Actor.{Actor}
use Rattle.hist_model.specs.declared.event.Entered.TheVariants.{Notify}
use Rattle.hist_model.specs.declared.event.Event.{Event}
use Rattle.hist_model.specs.declared.event.Disposition.{Disposition}
use Rattle.hist_model.specs.declared.event.Disposition.TheVariants.{Default}
use Rattle.hist_model.specs.declared.event.SpawnKind.{SpawnKind}
use Rattle.hist_model.specs.declared.event.SpawnKind.TheVariants.{Shared}
use Rattle.hist_model.specs.declared.event.What.{What}
use Rattle.hist_model.specs.declared.event.What.TheVariants.{Spawn, Enter, Resume, Signal, Deliver, Handler, Reap, Skip}
use Rattle.hist_model.specs.declared.script.Instr.{Instr}
use Rattle.hist_model.specs.declared.script.Script.{Script}
use Rattle.history_frames.specs.Ordinals.{makes_group}
use Rattle.sys_abi.specs.Errnos.{echild}
use Rattle.tasks.specs.Sets.{all_signals, with_signal}
use Rattle.tasks.specs.declared.row.EnteredCall.{EnteredCall}
use Rattle.tasks.specs.declared.signals.BySignal.{BySignal}

-- a task: what it is called, its PID, the ordinal of its group, the place of its program in the script and that
-- of its next instruction there, how often it has spawned, the id of the listed call in which it waits, the call that it
-- entered last, whether it owes a native call, has ended, was waited for, and has a parent that lives, which signals are
-- pending and what it does at each
pub record Row : Type 0 where
  pub name : Name
  pub pid : ℕ
  pub group : ℕ
  pub program : ℕ
  pub next : ℕ
  pub spawns : ℕ
  pub call : Option ℕ
  pub entered : Option EnteredCall
  pub owes : Bool
  pub ended : Bool
  pub waited : Bool
  pub fostered : Bool
  pub pending : BySignal Bool
  pub dispositions : BySignal Disposition

-- the tasks in the order in which they were made, the PID that was given last, and how many groups were made
pub record State : Type 0 where
  pub rows : List Row
  pub last : ℕ
  pub groups : ℕ

-- ---- what it answers

-- the task is reaped: its parent has waited for it, or it has ended and no parent can wait for it
abbrev pub is_reaped : Row → Bool
is_reaped r = r.waited || (r.ended && not r.fostered)

-- the task holds the PID
abbrev pub holds : ℕ → Row → Bool
holds p r = (r.pid == p) && not (is_reaped r)

-- the task has this name
abbrev pub is_named : Name → Row → Bool
is_named n r = name_eq r.name n

-- the task of a name
abbrev pub row_named : Name → State → Option Row
row_named n s = find (is_named n) s.rows

-- the task is a child of the task of this name that isn't reaped, and it has ended too
abbrev pub is_child_of : Name → Row → Bool
is_child_of n r = has_parent r.name && (name_eq (parent r.name) n && not (is_reaped r))

abbrev pub is_ended_child_of : Name → Row → Bool
is_ended_child_of n r = has_parent r.name && (name_eq (parent r.name) n && (r.ended && not (is_reaped r)))

-- the step of a wait: the ended child that was made first, an error where there is no child, or none
abbrev pub wait_by : Option Row → Option Row → What
wait_by None ended = Reap (Err echild)
wait_by (Some child) None = Skip
wait_by (Some child) (Some r) = Reap (Ok r.name)

abbrev pub wait_in : Name → State → What
wait_in n s = wait_by (find (is_child_of n) s.rows) (find (is_ended_child_of n) s.rows)

-- the task waits in a listed call, or owes a native one
abbrev pub is_in : Option ℕ → Bool
is_in (Some x) = true
is_in None = false

abbrev pub is_in_call : Row → Bool
is_in_call r = is_in r.call || r.owes

-- ---- what its own step makes of a task

-- the id of the call in which it waits, and the call that it entered last
abbrev pub call_after : What → Option ℕ → Option ℕ
call_after (Enter nr args (Notify id)) call = Some id
call_after (Resume back) call = None
call_after (Deliver sig effect) call = None
call_after w call = call

abbrev pub entered_after : What → Option EnteredCall → Option EnteredCall
entered_after (Enter nr args verdict) entered = Some (record { nr = nr; args = args })
entered_after w entered = entered

-- which signals are pending: one that is delivered isn't any more
abbrev pub pending_after : What → BySignal Bool → BySignal Bool
pending_after (Deliver sig effect) pending = with_signal pending sig false
pending_after w pending = pending

-- what it does at each signal
abbrev pub modes_after : What → BySignal Disposition → BySignal Disposition
modes_after (Handler sig disposition) dispositions = with_signal dispositions sig disposition
modes_after w dispositions = dispositions

abbrev pub stepped : What → Row → Row
stepped w r = record r {
  next = r.next + counts w - recounts w;
  spawns = r.spawns + is_spawn w;
  call = call_after w r.call;
  entered = entered_after w r.entered;
  owes = if skips w then r.owes else owes w;
  ended = ends w || r.ended;
  pending = pending_after w r.pending;
  dispositions = modes_after w r.dispositions;
}

-- ---- what a step of any task makes of a task

-- it is sent a signal by its PID
abbrev pub sent : What → Row → BySignal Bool
sent (Signal p sig (Ok u)) r = if holds p r then with_signal r.pending sig true else r.pending
sent w r = r.pending

-- a signal is sent to it, its parent waits for it, or ends
abbrev pub touched : Actor → What → Row → Row
touched who w r = record r {
  waited = reaps w r.name || r.waited;
  fostered = not (ends w && is_task who (parent r.name)) && r.fostered;
  pending = sent w r;
}

abbrev pub after_row : Actor → What → Row → Row
after_row who w r = touched who w (if is_task who r.name then stepped w r else r)

-- ---- the task that a step makes

-- its group: that of the task that makes it, or a new one
abbrev pub group_in : Option Row → ℕ
group_in (Some r) = r.group
group_in None = 0

abbrev pub group_for : SpawnKind → Option Row → State → ℕ
group_for Shared maker s = group_in maker
group_for kind maker s = s.groups

-- its program: what the next instruction of the task that makes it starts; the script's last one is the first task's
abbrev pub number_or_none : Option ℕ → ℕ
number_or_none (Some p) = p
number_or_none None = 0

abbrev pub started_by : Option Instr → ℕ
started_by (Some i) = number_or_none (started i)
started_by None = 0

abbrev pub next_of : Script → Row → Option Instr
next_of S r = slice_get (program_at S.programs (Some r.program)) r.next

abbrev pub program_for : Script → Option Row → ℕ
program_for S (Some r) = started_by (next_of S r)
program_for S None = length S.programs - 1

-- what it does at each signal is what the task does that makes it
abbrev pub modes_in : Option Row → BySignal Disposition
modes_in (Some r) = r.dispositions
modes_in None = all_signals Default

-- a task that has taken no step
abbrev pub new_row : Name → ℕ → ℕ → ℕ → BySignal Disposition → Row
new_row n pid group program dispositions = record {
  name = n;
  pid = pid;
  group = group;
  program = program;
  next = 0;
  spawns = 0;
  call = None;
  entered = None;
  owes = false;
  ended = false;
  waited = false;
  fostered = has_parent n;
  pending = all_signals false;
  dispositions = dispositions;
}

abbrev pub made_by : Script → State → Actor → What → List Row
made_by S s who (Spawn n (Ok a)) =
    let maker = row_named (task_name who) s in new_row n a.0 (group_for a.1 maker s) (program_for S maker) (modes_in maker) ∷ []
made_by S s who w = []

-- ---- by events

-- what a step of an actor makes of a state
abbrev pub after_step : Script → Actor → What → State → State
after_step S who w s = record {
  rows = map (after_row who w) s.rows ++ made_by S s who w;
  last = or_number (given w) s.last;
  groups = s.groups + (if makes_group w then 1 else 0);
}

-- what an event makes of a state
abbrev pub after : Script → State → Event → State
after S s e = after_step S e.who e.what s
