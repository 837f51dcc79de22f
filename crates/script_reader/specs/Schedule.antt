-- The schedule that lines state.
use Rattle.std.specs.Prelude.{ℕ, ◌+◌, Bool, true, false, if◌then◌else◌, nat_lt, List, [], ◌∷◌, ◌++◌, get_or, replicate, slice_set}
use Rattle.std.specs.Prelude.{Option, Some, None}
use Rattle.std.specs.List.{cons_option, filter_map}
use Rattle.hist_model.specs.declared.event.Actor.{Actor}
use Rattle.hist_model.specs.declared.event.Actor.TheVariants as actor
use Rattle.hist_model.specs.declared.script.Step.{Step}
use Rattle.lex_core.specs.declared.reason.Reason.TheVariants.{OutOfPlace}
use Rattle.step_requests.specs.declared.request.Asked.{Asked}
use Rattle.step_requests.specs.declared.request.Turn.{Turn}
use Rattle.step_requests.specs.declared.request.Turn.TheVariants as turn
use Rattle.script_reader.specs.declared.error.Fault.{Fault}
use Rattle.script_reader.specs.declared.schedule.WorkerLines.{WorkerLines}
use Rattle.script_reader.specs.declared.schedule.WorkerLines.TheVariants.{Counts, Requests}
use Rattle.script_reader.specs.Faults.{or_else, too_large_if, wrong_if}
use Rattle.script_reader.specs.Lists.{has_items}

-- the lines of a schedule: counts of steps, or turns where a worker's request is among them; what the lines of each of the workers
-- 0 to 15 are, where it has some; and how many steps these are, all together, a request being one
pub record ScheduleState : Type 0 where
  pub lines : List Step
  pub turns : List Turn
  pub workers : List (Option WorkerLines)
  pub steps : ℕ

abbrev pub no_steps : ScheduleState
no_steps = record { lines = []; turns = []; workers = replicate 16 None; steps = 0 }

abbrev pub count_of : Actor → ℕ → Step
count_of who count = record { who = who; count = count }

-- ---- the lines of a worker

abbrev pub are_counts : Option WorkerLines → Bool
are_counts (Some Counts) = true
are_counts _ = false

abbrev pub are_requests : Option WorkerLines → Bool
are_requests (Some Requests) = true
are_requests _ = false

-- the worker has counts above
abbrev pub has_counts : ScheduleState → ℕ → Bool
has_counts S worker = are_counts (get_or S.workers worker None)

-- the worker has requests above
abbrev pub has_requests : ScheduleState → ℕ → Bool
has_requests S worker = are_requests (get_or S.workers worker None)

-- ---- one more line

-- the steps of a task or a worker as a turn; nobody else is scheduled
abbrev pub turn_by : Actor → ℕ → Option Turn
turn_by (actor.Task task) count = Some (turn.Steps task count)
turn_by (actor.Worker worker) count = Some (turn.Serves worker count)
turn_by _ count = None

abbrev pub turn_of : Step → Option Turn
turn_of step = turn_by step.who step.count

abbrev pub with_count : Step → ScheduleState → ScheduleState
with_count step S = record S { lines = S.lines ++ step ∷ []; steps = S.steps + step.count }

abbrev pub with_turns : List Turn → ℕ → ScheduleState → ScheduleState
with_turns more count S = record S { turns = S.turns ++ more; steps = S.steps + count }

-- steps are a count, and after a worker's request a turn
abbrev pub with_steps : Step → ScheduleState → ScheduleState
with_steps step S = if has_items S.turns then with_turns (cons_option (turn_of step) []) step.count S else with_count step S

-- the lines of a worker are these
abbrev pub with_lines : ℕ → WorkerLines → ScheduleState → ScheduleState
with_lines worker lines S = record S { workers = slice_set S.workers worker (Some lines) }

abbrev pub with_task : List ℕ → ℕ → ScheduleState → ScheduleState
with_task task count S = with_steps (count_of (actor.Task task) count) S

abbrev pub with_worker : ℕ → ℕ → ScheduleState → ScheduleState
with_worker worker count S = with_steps (count_of (actor.Worker worker) count) (with_lines worker Counts S)

-- all lines so far are turns
abbrev pub in_turns : ScheduleState → ScheduleState
in_turns S = record S { lines = []; turns = S.turns ++ filter_map turn_of S.lines }

abbrev pub with_request : ℕ → Asked → ScheduleState → ScheduleState
with_request worker asked S = with_turns (turn.Asks worker asked ∷ []) 1 (in_turns (with_lines worker Requests S))

-- ---- faults

-- the steps are at most 200000
abbrev pub steps_fault : ScheduleState → ℕ → Option Fault
steps_fault S more = too_large_if (nat_lt 200000 (S.steps + more))

-- a count of a worker that has requests is out of place
abbrev pub counts_fault : ScheduleState → ℕ → ℕ → Option Fault
counts_fault S worker count = or_else (wrong_if (has_requests S worker) OutOfPlace) (steps_fault S count)

-- and so is a request of a worker that has counts
abbrev pub request_fault : ScheduleState → ℕ → Option Fault
request_fault S worker = or_else (wrong_if (has_counts S worker) OutOfPlace) (steps_fault S 1)
