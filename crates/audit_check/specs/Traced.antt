-- What is kept to tell the trail: the session of each call (`TellsSessions`), and the event that answered it by an installation.
use Rattle.std.specs.Prelude.{◌≡◌, ℕ, ◌<◌, if◌then◌else◌, List, [], length, get_or, Option, Some, None}
use Rattle.hist_model.specs.Kinds.{notifies}
use Rattle.hist_model.specs.Look.{or_else}
use Rattle.hist_model.specs.ReportAudit.{Judging, rule_of}
use Rattle.hist_model.specs.declared.event.Event.{Event}
use Rattle.audit_log.specs.Begun.{finding_in}
use Rattle.audit_log.specs.Served.{row_at}
use Rattle.audit_log.specs.declared.session.SessionRecord.{SessionRecord}
use Rattle.audit_check.specs.Trail.{installation, trace_text}
use Rattle.audit_check.specs.declared.trace.Trace.{Trace}

-- of each call, by its place, the newest event that answered it by an installation
abbrev pub TellsAnswers : List Event → ℕ → List (Option ℕ) → Type 0
TellsAnswers H room found = (c : ℕ) → c < room → get_or found c None ≡ installation c H

-- what is told of a call, by what is kept of its session
abbrev pub trace_of : Option SessionRecord → Option ℕ → Trace
trace_of None n = record { recv = None; valid = None; effect = None; answer = n; rule = None }
trace_of (Some x) n = record {
  recv = Some x.place;
  valid = x.stages.valid;
  effect = x.stages.effect;
  answer = or_else x.stages.sent n;
  rule = rule_of (finding_in x);
}

-- the line of an event, by these
abbrev pub traced_line : Judging → List SessionRecord → List (Option ℕ) → List (Option ℕ) → List Event → Event → List ℕ
traced_line J rows served installed K e =
    if notifies e.what
    then trace_text J (length K) (trace_of (row_at rows (get_or served (length K) None)) (get_or installed (length K) None))
    else []
