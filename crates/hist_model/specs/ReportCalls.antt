-- The calls of a report: one line for each call that a task entered, with what came of it.
use Rattle.std.specs.Prelude.{ℕ, Bool, true, false, ◌&&◌, if◌then◌else◌, ◌==◌, min, List, [], ◌∷◌, ◌++◌, length, Option, Some, None, Ok}
use Rattle.std.specs.Prelude.{Err, ℤ, pos, codes, decimal, count_by}
use Rattle.std.specs.Fmt.{signed_decimal}
use Rattle.hist_model.specs.Kinds.{enters}
use Rattle.hist_model.specs.Look.{Name, name_eq, is_task, is_place, task_name, or_else}
use Rattle.hist_model.specs.ReportWords.{errno_text, call_text, actor_text}
use Rattle.hist_model.specs.ReportJournal.{lines_of, title}
use Rattle.hist_model.specs.declared.event.Actor.{Actor}
use Rattle.hist_model.specs.declared.event.Event.{Event}
use Rattle.hist_model.specs.declared.event.What.{What}
use Rattle.hist_model.specs.declared.event.What.TheVariants.{Spawn, Enter, Native, Resume, Deliver}
use Rattle.hist_model.specs.declared.event.Entered.{Entered}
use Rattle.hist_model.specs.declared.event.Entered.TheVariants.{Fails, NoSys, Kill}
use Rattle.hist_model.specs.declared.event.Back.TheVariants.{Value, Fail}
use Rattle.hist_model.specs.declared.event.Delivered.TheVariants.{End, Restart, Eintr}
use Rattle.hist_model.specs.declared.report.Outcome.{Outcome}
use Rattle.hist_model.specs.declared.report.Outcome.TheVariants.{Open, Returned, Failed, Restarted, Ended}

-- what the filters alone make of a call (seccomp(2))
abbrev pub outcome_of_verdict : Entered → Outcome
outcome_of_verdict (Fails n) = if n == 0 then Returned (pos 0) else Failed (min n 4095)
outcome_of_verdict NoSys = Failed 38
outcome_of_verdict Kill = Ended
outcome_of_verdict _ = Open

abbrev pub outcome_at_entry : What → Outcome
outcome_at_entry (Enter nr args verdict) = outcome_of_verdict verdict
outcome_at_entry _ = Open

-- what a later step of its task makes of a call of which nothing came yet
abbrev pub outcome_by : What → Outcome
outcome_by (Native (Ok n)) = Returned (pos n)
outcome_by (Native (Err e)) = Failed e
outcome_by (Resume (Value v)) = Returned v
outcome_by (Resume (Fail e)) = Failed e
outcome_by (Deliver sig End) = Ended
outcome_by (Deliver sig Restart) = Restarted
outcome_by (Deliver sig Eintr) = Failed 4
outcome_by _ = Open

-- the first step that something came of decides
abbrev pub outcome_next : Outcome → What → Outcome
outcome_next Open a = outcome_by a
outcome_next (Returned v) a = Returned v
outcome_next (Failed e) a = Failed e
outcome_next Restarted a = Restarted
outcome_next Ended a = Ended

-- one more step: whether it is the call's entry, whether it is its task's in this call, and what came of the call before
abbrev pub outcome_step : Bool → Bool → Outcome → What → Outcome
outcome_step true own before a = outcome_at_entry a
outcome_step false true before a = outcome_next before a
outcome_step false false before a = before

-- the place of the newest call that task n entered
unfoldable pub newest_call : Name → List Event → Option ℕ
newest_call n [] = None
newest_call n (e ∷ K) = if is_task e.who n && enters e.what then Some (length K) else newest_call n K

-- after K, the step is one of task n in the call that it entered at place c: it has entered no later one
abbrev pub is_in_call : Name → ℕ → List Event → Event → Bool
is_in_call n c K e = is_task e.who n && is_place (newest_call n K) c

-- what came of the call that task n entered at place c, at the latest when it enters the next one
unfoldable pub outcome : Name → ℕ → List Event → Outcome
outcome n c [] = Open
outcome n c (e ∷ K) = outcome_step (length K == c) (is_in_call n c K e) (outcome n c K) e.what

abbrev pub is_pending : Outcome → Bool
is_pending Open = true
is_pending _ = false

-- after K, the step is one of task n in the call that it entered at place c, of which nothing came yet
abbrev pub is_inside : Name → ℕ → List Event → Event → Bool
is_inside n c K e = is_in_call n c K e && is_pending (outcome n c K)

abbrev pub outcome_text : Outcome → List ℕ
outcome_text Open = codes "open"
outcome_text (Returned v) = signed_decimal v
outcome_text (Failed e) = errno_text e
outcome_text Restarted = codes "restarted"
outcome_text Ended = codes "ended"

-- the PID that the step gave to task n
abbrev pub pid_given : What → Name → Option ℕ
pid_given (Spawn m (Ok a)) n = if name_eq m n then Some a.0 else None
pid_given _ n = None

-- the first PID that task n was given
unfoldable pub first_pid : Name → List Event → Option ℕ
first_pid n [] = None
first_pid n (e ∷ K) = or_else (first_pid n K) (pid_given e.what n)

-- the number, or 0 where there is none
abbrev pub or_zero : Option ℕ → ℕ
or_zero (Some p) = p
or_zero None = 0

-- the line of a call with this number, of which this came: its place, its task, and the task's PID
abbrev pub call_line_of : ℕ → Actor → ℕ → ℤ → Outcome → List ℕ
call_line_of c who pid nr out =
    decimal c ++ codes " " ++ actor_text who ++ codes " pid=" ++ decimal pid ++ codes " " ++ call_text nr
    ++ codes " " ++ outcome_text out ++ codes "\n"

-- in the history H, the line of the step that comes after K, where it enters a call
abbrev pub call_line_by : List Event → List Event → Actor → What → List ℕ
call_line_by H K who (Enter nr args verdict) =
    call_line_of (length K) who (or_zero (first_pid (task_name who) K)) nr (outcome (task_name who) (length K) H)
call_line_by H K who _ = []

abbrev pub call_line : List Event → List Event → Event → List ℕ
call_line H K e = call_line_by H K e.who e.what

-- the calls: a line for each call that was entered, from the oldest on
abbrev pub calls : List Event → List ℕ
calls H = title (codes "calls") (count_by (λ e. enters e.what) H) ++ lines_of (call_line H) H
