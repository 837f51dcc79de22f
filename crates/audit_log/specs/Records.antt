-- What is kept of each call while the events are gone through: its task's PID, what came of it, and the number of the descriptor that
-- was installed for it.
use Rattle.std.specs.Prelude.{◌≡◌, ℕ, Bool, true, false, if◌then◌else◌, List, ◌∷◌, ◌++◌, [], length, get_or, set, Option, Some, None}
use Rattle.hist_model.specs.Kinds.{enters}
use Rattle.hist_model.specs.Look.{event_at, task_name}
use Rattle.hist_model.specs.ReportCalls.{call_line_of, first_pid, or_zero, outcome, outcome_at_entry, outcome_next, is_pending}
use Rattle.hist_model.specs.ReportAudit.{installed, number_given}
use Rattle.hist_model.specs.declared.event.Actor.{Actor}
use Rattle.hist_model.specs.declared.event.Event.{Event}
use Rattle.hist_model.specs.declared.event.What.{What}
use Rattle.hist_model.specs.declared.event.What.TheVariants.{Deliver, Enter, Install, Native, Resume}
use Rattle.hist_model.specs.declared.report.Outcome.TheVariants.{Open}
use Rattle.audit_log.specs.Places.{row_in}
use Rattle.audit_log.specs.declared.records.CallRecord.{CallRecord}
use Rattle.audit_log.specs.declared.records.CallRecords.{CallRecords}
use Rattle.audit_log.specs.declared.tasks.TaskFacts.{TaskFacts}

abbrev pub no_record : CallRecord
no_record = record { pid = None; outcome = Open; number = None }

-- in a row, if there is one
abbrev pub record_of_row : List CallRecord → Option ℕ → CallRecord
record_of_row records None = no_record
record_of_row records (Some row) = get_or records row no_record

-- of the call that the event at a place enters
abbrev pub record_in : CallRecords → ℕ → CallRecord
record_in t place = record_of_row t.records.items (row_in t.places.items place)

-- in the history H, of the event that comes after K
abbrev pub record_of : List Event → List Event → Event → CallRecord
record_of H K e = record {
  pid = first_pid (task_name e.who) K;
  outcome = outcome (task_name e.who) (length K) H;
  number = installed (task_name e.who) (length K) H;
}

-- the records tell of each event of the history that enters a call, by its place
abbrev pub Tells : List Event → (ℕ → CallRecord) → Type 0
Tells H kept = (later K : List Event) (e : Event) → H ≡ later ++ e ∷ K → enters e.what ≡ true → kept (length K) ≡ record_of H K e

-- the places of the events that enter a call, from the oldest on
unfoldable pub entries : List Event → List ℕ
entries [] = []
entries (e ∷ K) = if enters e.what then entries K ++ length K ∷ [] else entries K

-- there is a row for each of these events that enters a call, and no other
pub record HasEntries (K : List Event) (t : CallRecords) : Type 0 where
  pub places : t.places.items ≡ entries K
  pub whole : length t.records.items ≡ length t.places.items

-- ---- One more step

-- a step of a task may change what came of its call
abbrev pub moves : What → Bool
moves (Native answer) = true
moves (Resume back) = true
moves (Deliver sig effect) = true
moves (Install answer) = true
moves _ = false

-- with one more step of its task
abbrev pub record_after : What → CallRecord → CallRecord
record_after a r = record { pid = r.pid; outcome = outcome_next r.outcome a; number = number_given (is_pending r.outcome) a r.number }

-- the row of the call at a place, if there is one
abbrev pub row_at : List ℕ → Option ℕ → Option ℕ
row_at places None = None
row_at places (Some c) = row_in places c

-- of the call in a row, if there is one, with one more step of its task
abbrev pub advanced : Option ℕ → What → List CallRecord → List CallRecord
advanced None a records = records
advanced (Some row) a records = set records row (record_after a (get_or records row no_record))

-- of a step as it happens, by what is kept of its actor
abbrev pub first_record : What → TaskFacts → CallRecord
first_record a facts = record { pid = facts.pid; outcome = outcome_at_entry a; number = None }

-- with one more step, by what is kept of its actor and the row of its newest call
abbrev pub recorded : What → TaskFacts → Option ℕ → List CallRecord → List CallRecord
recorded a facts row records =
    if enters a then records ++ first_record a facts ∷ [] else (if moves a then advanced row a records else records)

-- the places with one more step, which has this place
abbrev pub placed : What → ℕ → List ℕ → List ℕ
placed a place places = if enters a then places ++ place ∷ [] else places

-- ---- What is asked

-- the number that was installed for the call at a place
abbrev pub number_at : (ℕ → CallRecord) → Option ℕ → Option ℕ
number_at kept None = None
number_at kept (Some c) = (kept c).number

-- the line of an event that enters a call, by its record
abbrev pub recorded_by : CallRecord → ℕ → Actor → What → List ℕ
recorded_by r place who (Enter nr args verdict) = call_line_of place who (or_zero r.pid) nr r.outcome
recorded_by r place who _ = []

abbrev pub recorded_line : CallRecords → List Event → Event → List ℕ
recorded_line t K e = recorded_by (record_in t (length K)) (length K) e.who e.what

-- the line of the event at a place, if there is one
abbrev pub line_of : CallRecords → ℕ → Option Event → List ℕ
line_of t place None = []
line_of t place (Some e) = recorded_by (record_in t place) place e.who e.what

abbrev pub line_at : CallRecords → List Event → ℕ → List ℕ
line_at t H place = line_of t place (event_at H place)
