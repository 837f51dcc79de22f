-- What is kept of each task while the events are gone through: the first PID that it was given, and its newest call.
use Rattle.std.specs.Prelude.{◌≡◌, ℕ, ◌&&◌, if◌then◌else◌, List, [], ◌∷◌, Option, Some, None}
use Rattle.std.specs.HashMap.{get_by}
use Rattle.hist_model.specs.Look.{Name, is_task, name_eq, or_else, task_name}
use Rattle.hist_model.specs.Kinds.{enters}
use Rattle.hist_model.specs.ReportCalls.{newest_call, first_pid, pid_given}
use Rattle.hist_model.specs.declared.event.Actor.{Actor}
use Rattle.hist_model.specs.declared.event.Actor.TheVariants.{Task}
use Rattle.hist_model.specs.declared.event.Event.{Event}
use Rattle.audit_log.specs.declared.tasks.TaskFacts.{TaskFacts}
use Rattle.audit_log.specs.declared.tasks.TaskRecords.{TaskRecords}

-- of a task of which nothing was seen
abbrev pub no_task : TaskFacts
no_task = record { pid = None; newest = None }

-- what was found, or else nothing
abbrev pub facts_or_none : Option TaskFacts → TaskFacts
facts_or_none (Some f) = f
facts_or_none None = no_task

-- what the rows have of task n
abbrev pub row_of : TaskRecords → Name → TaskFacts
row_of t n = facts_or_none (get_by (λ key. name_eq n key.items) t.rows)

-- what the table has of task n; under the name that has no number it stands apart, and so does that of one task
abbrev pub facts_in : TaskRecords → Name → TaskFacts
facts_in t [] = t.unnamed
facts_in t (x ∷ n) = if name_eq t.last_name (x ∷ n) then t.last else row_of t (x ∷ n)

-- of task n in these events
abbrev pub task_facts : List Event → Name → TaskFacts
task_facts K n = record { pid = first_pid n K; newest = newest_call n K }

-- of task n with one more event, which has this place
abbrev pub task_after : ℕ → Event → Name → TaskFacts → TaskFacts
task_after place e n f = record {
  pid = or_else f.pid (pid_given e.what n);
  newest = if is_task e.who n && enters e.what then Some place else f.newest;
}

-- the table tells of each task in these events
abbrev pub Knows : List Event → TaskRecords → Type 0
Knows K t = (n : Name) → facts_in t n ≡ task_facts K n

-- the newest call of the actor, where it is a task
abbrev pub call_of : Actor → (Name → TaskFacts) → Option ℕ
call_of (Task n) facts = (facts n).newest
call_of who facts = None

-- what is kept of the task that an actor is; of another actor what is kept under its name, which has no number, and no newest call
abbrev pub facts_of : Actor → (Name → TaskFacts) → TaskFacts
facts_of who facts = record { pid = (facts (task_name who)).pid; newest = call_of who facts }
