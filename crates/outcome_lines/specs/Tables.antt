-- The same lines by what is kept of the calls and of the sessions.
use Rattle.std.specs.Prelude.{ℕ, ◌+◌, true, false, if◌then◌else◌, List, [], ◌∷◌, get_or, is_some, Option, Some, None, length}
use Rattle.hist_model.specs.Look.{Name}
use Rattle.hist_model.specs.ReportAudit.{session_at}
use Rattle.hist_model.specs.declared.event.Event.{Event}
use Rattle.hist_model.specs.declared.event.What.{What}
use Rattle.hist_model.specs.declared.event.What.TheVariants.{Enter}
use Rattle.audit_log.specs.Begun.{finding_in}
use Rattle.audit_log.specs.Records.{record_in}
use Rattle.audit_log.specs.Served.{row_at}
use Rattle.audit_log.specs.declared.kept_calls.CallTable.{CallTable}
use Rattle.audit_log.specs.declared.session.SessionRecord.{SessionRecord}
use Rattle.outcome_text.specs.Outcomes.{calls_of, did, is_call_of}
use Rattle.outcome_text.specs.declared.mark.Mark.{Mark}
use Rattle.outcome_lines.specs.Lines.{sight_in, unnamed}
use Rattle.outcome_lines.specs.declared.line.Line.{Line}
use Rattle.outcome_lines.specs.declared.line.Told.{Told}

-- of a session, by what is kept of it
abbrev pub kept_told : List Mark → List Event → SessionRecord → Told
kept_told ms H x = record {
  worker = if x.facts.shut then None else Some x.worker;
  finding = finding_in x;
  sent = x.facts.sent;
  lost = x.facts.lost;
  did = did false (session_at x.worker x.place H);
  did_unseen = did true (session_at x.worker x.place H);
  sight = sight_in H ms x.stages.effect;
}

abbrev pub kept_told_if : List Mark → List Event → Option SessionRecord → Option Told
kept_told_if ms H None = None
kept_told_if ms H (Some x) = Some (kept_told ms H x)

-- of a step at a place by which task n enters a call, behind so many calls of its own
abbrev pub kept_line : List Mark → List Event → CallTable → Option SessionRecord → Name → ℕ → ℕ → What → List Line
kept_line ms H calls session n place before (Enter nr args verdict) = record {
  name = n;
  number = before + 1;
  nr = nr;
  verdict = unnamed verdict;
  came = (record_in calls.entered place).outcome;
  installed = is_some (record_in calls.entered place).number;
  session = kept_told_if ms H session;
} ∷ []
kept_line ms H calls session n place before _ = []

-- of an event at a place, behind so many calls of task n
abbrev pub kept_at : List Mark → List Event → CallTable → List SessionRecord → List (Option ℕ) → Name → ℕ → ℕ → Event → List Line
kept_at ms H calls rows served n place before e =
    if is_call_of n e then kept_line ms H calls (row_at rows (get_or served place None)) n place before e.what else []

-- of the event that comes after K
abbrev pub kept_by : List Mark → List Event → CallTable → List SessionRecord → List (Option ℕ) → Name → List Event → Event → List Line
kept_by ms H calls rows served n K e = kept_at ms H calls rows served n (length K) (calls_of n K) e
