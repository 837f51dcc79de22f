-- What a history comes to: each call of its tasks, and what was done for it. It is told in the words of a report, without places and ids.
use Rattle.std.specs.Prelude.{ℕ, ◌+◌, Bool, true, false, ◌&&◌, if◌then◌else◌, nat_lt, List, [], ◌∷◌, ◌++◌, ◌==◌, length}
use Rattle.std.specs.Prelude.{Option, Some, None, Result, Ok, ℤ, pos, codes, decimal}
use Rattle.std.specs.Cmp.Lexicographic.{slice_cmp}
use Rattle.std.specs.List.{flat_map, list_any}
use Rattle.std.specs.Ordering.{is_lt, nat_cmp}
use Rattle.sys_abi.specs.Calls.{nr_getpid}
use Rattle.hist_model.specs.Kinds.{enters}
use Rattle.hist_model.specs.Look.{Name, is_task}
use Rattle.hist_model.specs.Memory.{is_number}
use Rattle.hist_model.specs.ReportAudit.{Judging, arrival_text, audit_by, finding_text, installed, rule_of, rule_text}
use Rattle.hist_model.specs.ReportCalls.{outcome, outcome_text}
use Rattle.hist_model.specs.ReportJournal.{entered_text, lines_of, request_text, what_text}
use Rattle.hist_model.specs.ReportWords.{call_text, name_text, result_text}
use Rattle.hist_model.specs.declared.event.Entered.{Entered}
use Rattle.hist_model.specs.declared.event.Entered.TheVariants.{Notify}
use Rattle.hist_model.specs.declared.event.Event.{Event}
use Rattle.hist_model.specs.declared.event.What.{What}
use Rattle.hist_model.specs.declared.event.What.TheVariants.{Act, Enter, Plant, Spawn}
use Rattle.hist_model.specs.declared.report.Audit.{Audit}
use Rattle.hist_model.specs.declared.report.Outcome.{Outcome}
use Rattle.hist_model.specs.declared.report.Outcome.TheVariants.{Returned}
use Rattle.hist_model.specs.declared.request.Request.{Request}
use Rattle.hist_model.specs.declared.request.Request.TheVariants.{Mount, SetXattr}
use Rattle.hist_model.specs.declared.script.Script.{Script}
use Rattle.audit_log.specs.Begun.{Begun}
use Rattle.audit_log.specs.Served.{session_for}
use Rattle.outcome_text.specs.Sight.{hidden}

-- ---- The tasks, in the order of their names

-- a name stands before another: number by number, and one that another begins with before that
abbrev pub stands_before : Name → Name → Bool
stands_before n m = is_lt (slice_cmp nat_cmp n m)

-- names that stand in this order, with one more
abbrev pub with_name : Name → List Name → List Name
with_name n [] = n ∷ []
with_name n (m ∷ more) = if stands_before n m then n ∷ m ∷ more else m ∷ with_name n more

-- with the task that a step makes
abbrev pub names_with : What → List Name → List Name
names_with (Spawn n (Ok a)) names = with_name n names
names_with _ names = names

-- the names of the tasks that got a PID, in this order
unfoldable pub task_names : List Event → List Name
task_names [] = []
task_names (e ∷ K) = names_with e.what (task_names K)

-- ---- A call

-- the event is a call that task n enters
abbrev pub is_call_of : Name → Event → Bool
is_call_of n e = is_task e.who n && enters e.what

-- how many calls a task has entered
unfoldable pub calls_of : Name → List Event → ℕ
calls_of n [] = 0
calls_of n (e ∷ K) = calls_of n K + (if is_call_of n e then 1 else 0)

-- what the filters say of a call, without the id
abbrev pub verdict_text : Entered → List ℕ
verdict_text (Notify id) = codes "notify"
verdict_text verdict = entered_text verdict

-- the call returned a number above 0
abbrev pub gives_number : Outcome → Bool
gives_number (Returned (pos n)) = nat_lt 0 n
gives_number _ = false

-- what the call came to; of a getpid not which number
abbrev pub came_text : ℤ → Outcome → List ℕ
came_text nr came = if is_number nr nr_getpid && gives_number came then codes "pid" else outcome_text came

-- the task, the call's number among its own, the call, what the filters say, and what it came to
abbrev pub entry_text : Name → ℕ → ℤ → Entered → Outcome → List ℕ
entry_text n number nr verdict came =
    codes "t" ++ name_text n ++ codes " " ++ decimal number ++ codes " " ++ call_text nr ++ codes " " ++ verdict_text verdict
    ++ codes " " ++ came_text nr came

-- of a step that enters a call
abbrev pub entry_of : Name → ℕ → What → Outcome → List ℕ
entry_of n number (Enter nr args verdict) came = entry_text n number nr verdict came
entry_of n number _ came = []

-- ---- Its session

-- the words of the audit
abbrev pub audit_text : Judging → Audit → List ℕ
audit_text J a = codes " rule=" ++ rule_text J (rule_of a.finding) ++ codes " verdict=" ++ finding_text a.finding
    ++ codes " reply=" ++ arrival_text a.arrival ++ codes "\n"

-- what became of an effect that a later one took from sight
abbrev pub fate_text : Request → List ℕ
fate_text (Mount source target fstype options via flags shift) = codes " covered"
fate_text (SetXattr path name value flags) = codes " replaced"
fate_text _ = []

-- of a request with this answer, whose effect is out of sight or isn't
abbrev pub fate_of : Bool → Request → Result (Unit {0}) ℕ → List ℕ
fate_of true q (Ok u) = fate_text q
fate_of is_hidden q answer = []

-- what a step did for the call, where that is out of sight or isn't
abbrev pub did_by : Bool → What → List ℕ
did_by is_hidden (Act q cap answer) =
    codes " did " ++ request_text q ++ codes " " ++ result_text answer ++ fate_of is_hidden q answer ++ codes "\n"
did_by is_hidden (Plant addr bytes cap answer) = codes " did " ++ what_text (Plant addr bytes cap answer) ++ codes "\n"
did_by is_hidden _ = []

-- what a session with these steps, the newest first, did; it does one effect at most
abbrev pub did : Bool → List What → List ℕ
did is_hidden [] = []
did is_hidden (a ∷ own) = did is_hidden own ++ did_by is_hidden a

-- the place is one of those
abbrev pub is_among : List ℕ → Option ℕ → Bool
is_among places None = false
is_among places (Some place) = list_any (λ p. p == place) places

-- the session that received a call, for which this number was installed, and what it did,
-- where the effects at these places are out of sight
abbrev pub session_text : Judging → List ℕ → Option ℕ → Option Begun → List ℕ
session_text J places number None = codes " rule=- verdict=- reply=-\n"
session_text J places number (Some s) =
    audit_text J (audit_by J s.notif s.steps number) ++ did (is_among places s.stages.effect) s.steps

-- ---- The history

-- in the history H, the lines of the event that comes after K, where it is a call that task n enters
abbrev pub call_lines : Judging → List ℕ → List Event → Name → List Event → Event → List ℕ
call_lines J places H n K e =
    if is_call_of n e
    then entry_of n (calls_of n K + 1) e.what (outcome n (length K) H)
    ++ session_text J places (installed n (length K) H) (session_for H (length K) H)
    else []

-- what a history comes to, where the effects at these places are out of sight:
-- the tasks by their names, and of each its calls, the oldest first
unfoldable pub result_with : Judging → List ℕ → List Event → List ℕ
result_with J places H = flat_map (λ n. lines_of (call_lines J places H n) H) (task_names H)

-- what a history of a script comes to
abbrev pub result_of : Script → Judging → List Event → List ℕ
result_of S J H = result_with J (hidden S H) H
