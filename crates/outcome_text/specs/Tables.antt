-- The same lines by what is kept of the calls and of the sessions.
use Rattle.std.specs.Prelude.{ℕ, ◌+◌, if◌then◌else◌, List, [], ◌++◌, length, get_or, Option, Some, None}
use Rattle.hist_model.specs.Look.{Name}
use Rattle.hist_model.specs.ReportAudit.{Judging, session_at}
use Rattle.hist_model.specs.declared.event.Event.{Event}
use Rattle.audit_log.specs.Audited.{audited}
use Rattle.audit_log.specs.Records.{record_in}
use Rattle.audit_log.specs.Served.{row_at}
use Rattle.audit_log.specs.declared.kept_calls.CallTable.{CallTable}
use Rattle.audit_log.specs.declared.session.SessionRecord.{SessionRecord}
use Rattle.outcome_text.specs.Outcomes.{audit_text, calls_of, did, entry_of, is_among, is_call_of, session_text}

-- of a session, by what is kept of it
abbrev pub kept_text : Judging → List ℕ → List Event → Option ℕ → Option SessionRecord → List ℕ
kept_text J places H number None = session_text J places number None
kept_text J places H number (Some x) =
    audit_text J (audited number x) ++ did (is_among places x.stages.effect) (session_at x.worker x.place H)

-- of an event at a place, behind so many calls of task n
abbrev pub lines_at : Judging → List ℕ → List Event → CallTable → List SessionRecord → List (Option ℕ) → Name → ℕ → ℕ → Event → List ℕ
lines_at J places H calls rows served n place before e =
    if is_call_of n e
    then entry_of n (before + 1) e.what (record_in calls.entered place).outcome
    ++ kept_text J places H (record_in calls.entered place).number (row_at rows (get_or served place None))
    else []

-- of the event that comes after K
abbrev pub lines_by : Judging → List ℕ → List Event → CallTable → List SessionRecord → List (Option ℕ) → Name → List Event → Event → List ℕ
lines_by J places H calls rows served n K e = lines_at J places H calls rows served n (length K) (calls_of n K) e
