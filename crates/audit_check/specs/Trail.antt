-- The trail of a history: for each call, the places of the steps that served it, and the rule that decided.
use Rattle.std.specs.Prelude.{ℕ, if◌then◌else◌, List, [], ◌∷◌, ◌++◌, length, Option, Some, None, codes, decimal}
use Rattle.hist_model.specs.Kinds.{notifies}
use Rattle.hist_model.specs.Look.{is_place, or_else}
use Rattle.hist_model.specs.ReportAudit.{Judging, finding, rule_of, rule_text}
use Rattle.hist_model.specs.ReportJournal.{lines_of}
use Rattle.hist_model.specs.declared.event.Event.{Event}
use Rattle.audit_log.specs.Begun.{Begun}
use Rattle.audit_log.specs.Requests.{installed_for}
use Rattle.audit_log.specs.Served.{session_for}
use Rattle.audit_check.specs.declared.trace.Trace.{Trace}

-- the place of the newest event that answered the call at place c by an installation
unfoldable pub installation : ℕ → List Event → Option ℕ
installation c [] = None
installation c (e ∷ K) = if is_place (installed_for K e) c then Some (length K) else installation c K

-- what is told of a call that had this session, and was answered by this installation: it is answered by what was sent and taken, else
-- by the installation
abbrev pub traced : Judging → Option Begun → Option ℕ → Trace
traced J None n = record { recv = None; valid = None; effect = None; answer = n; rule = None }
traced J (Some s) n = record {
  recv = Some s.place;
  valid = s.stages.valid;
  effect = s.stages.effect;
  answer = or_else s.stages.sent n;
  rule = rule_of (finding J s.notif s.steps);
}

-- a place, or `-` where there is none
abbrev pub place_text : Option ℕ → List ℕ
place_text (Some place) = decimal place
place_text None = codes "-"

-- the line of the call at place c
abbrev pub trace_text : Judging → ℕ → Trace → List ℕ
trace_text J c t =
    codes "trail " ++ decimal c ++ codes " recv=" ++ place_text t.recv ++ codes " valid=" ++ place_text t.valid
    ++ codes " effect=" ++ place_text t.effect
    ++ codes " answer=" ++ place_text t.answer ++ codes " rule=" ++ rule_text J t.rule ++ codes "\n"

-- in the history H, the line of the event that comes after K, where it enters a call that is listed
abbrev pub trail_line : Judging → List Event → List Event → Event → List ℕ
trail_line J H K e =
    if notifies e.what then trace_text J (length K) (traced J (session_for H (length K) H) (installation (length K) H)) else []

-- the trail: a line for each call, from the oldest on
abbrev pub trail : Judging → List Event → List ℕ
trail J H = lines_of (trail_line J H) H
