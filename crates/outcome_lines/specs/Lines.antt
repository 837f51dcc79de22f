-- The lines of a history: what each call came to so far.
use Rattle.std.specs.Prelude.{ℕ, ◌+◌, Bool, true, false, ◌==◌, if◌then◌else◌, List, [], ◌∷◌, ◌++◌, length, find, is_some, Option, Some}
use Rattle.std.specs.Prelude.{None}
use Rattle.std.specs.List.{flat_map, list_any}
use Rattle.hist_model.specs.Kinds.{is_sent, misses_call}
use Rattle.hist_model.specs.Look.{Name, event_at}
use Rattle.hist_model.specs.ReportAudit.{Judging, finding, installed, is_shut}
use Rattle.hist_model.specs.ReportCalls.{outcome}
use Rattle.hist_model.specs.declared.event.Entered.{Entered}
use Rattle.hist_model.specs.declared.event.Entered.TheVariants.{Notify}
use Rattle.hist_model.specs.declared.event.Event.{Event}
use Rattle.hist_model.specs.declared.event.What.{What}
use Rattle.hist_model.specs.declared.event.What.TheVariants.{Act, Enter}
use Rattle.hist_model.specs.declared.request.Request.TheVariants.{Mount, SetXattr}
use Rattle.hist_model.specs.declared.script.Script.{Script}
use Rattle.audit_log.specs.Begun.{Begun}
use Rattle.audit_log.specs.Served.{session_for}
use Rattle.outcome_text.specs.Outcomes.{calls_of, did, is_call_of, task_names}
use Rattle.outcome_text.specs.Sight.{marks}
use Rattle.outcome_text.specs.declared.mark.Mark.{Mark}
use Rattle.outcome_lines.specs.declared.line.Line.{Line}
use Rattle.outcome_lines.specs.declared.line.Sight.{Sight}
use Rattle.outcome_lines.specs.declared.line.Sight.TheVariants.{OnAttr, OnRoot}
use Rattle.outcome_lines.specs.declared.line.Told.{Told}

-- ---- What would take an effect from sight

-- of a step that was done on a node
abbrev pub sight_of : What → ℕ → Option Sight
sight_of (Act (Mount source target fstype options via flags shift) cap answer) n = Some (OnRoot (record { ordinal = n }))
sight_of (Act (SetXattr path name value flags) cap answer) n = Some (OnAttr (record { ordinal = n }) name value)
sight_of _ n = None

-- of the event at a place, if there is one
abbrev pub sight_by : Option Event → ℕ → Option Sight
sight_by (Some e) n = sight_of e.what n
sight_by None n = None

-- the mark has this place
abbrev pub has_place : ℕ → Mark → Bool
has_place place m = m.place == place

abbrev pub sight_by_mark : List Event → Option Mark → Option Sight
sight_by_mark H None = None
sight_by_mark H (Some m) = sight_by (event_at H m.place) m.node.ordinal

-- of an effect of the history H, if there is one, by marks
abbrev pub sight_in : List Event → List Mark → Option ℕ → Option Sight
sight_in H ms None = None
sight_in H ms (Some place) = sight_by_mark H (find (has_place place) ms)

-- ---- A session

-- the worker that has it in hand
abbrev pub in_hand_by : Begun → Option ℕ
in_hand_by s = if is_shut s.steps then None else Some s.worker

-- in the history H, by its marks
abbrev pub told_of : Judging → List Mark → List Event → Begun → Told
told_of J ms H s = record {
  worker = in_hand_by s;
  finding = finding J s.notif s.steps;
  sent = list_any is_sent s.steps;
  lost = list_any misses_call s.steps;
  did = did false s.steps;
  did_unseen = did true s.steps;
  sight = sight_in H ms s.stages.effect;
}

abbrev pub told_if : Judging → List Mark → List Event → Option Begun → Option Told
told_if J ms H None = None
told_if J ms H (Some s) = Some (told_of J ms H s)

-- ---- A call

-- what the filters say of it, without the id
abbrev pub unnamed : Entered → Entered
unnamed (Notify id) = Notify 0
unnamed verdict = verdict

-- in the history H, of the step that comes after K, by which task n enters a call
abbrev pub line_of : Judging → List Mark → List Event → Name → List Event → What → List Line
line_of J ms H n K (Enter nr args verdict) = record {
  name = n;
  number = calls_of n K + 1;
  nr = nr;
  verdict = unnamed verdict;
  came = outcome n (length K) H;
  installed = is_some (installed n (length K) H);
  session = told_if J ms H (session_for H (length K) H);
} ∷ []
line_of J ms H n K _ = []

-- of the event that comes after K, where it is a call that task n enters
abbrev pub line_at : Judging → List Mark → List Event → Name → List Event → Event → List Line
line_at J ms H n K e = if is_call_of n e then line_of J ms H n K e.what else []

-- what is told of each event, by those before it, the oldest first
unfoldable pub gathered : (List Event → Event → List Line) → List Event → List Line
gathered f [] = []
gathered f (e ∷ K) = gathered f K ++ f K e

-- the lines by the marks of a history: the tasks by their names, and of each its calls, the oldest first
unfoldable pub lines_with : Judging → List Mark → List Event → List Line
lines_with J ms H = flat_map (λ n. gathered (line_at J ms H n) H) (task_names H)

-- the lines of a history of a script
abbrev pub lines_in : Script → Judging → List Event → List Line
lines_in S J H = lines_with J (marks S H) H
