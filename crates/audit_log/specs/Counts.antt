-- The counts that a summary tells of a history, those of several histories together, and how they are written.
use Rattle.std.specs.Prelude.{◌≡◌, ℕ, ◌+◌, ◌++◌, List, length, codes, decimal, count_by}
use Rattle.hist_model.specs.Kinds.{notifies, enters, is_sent}
use Rattle.hist_model.specs.Report.{audits, denies, faults, grants, injects, is_gone_session, loses, passes}
use Rattle.hist_model.specs.ReportAudit.{Judging}
use Rattle.hist_model.specs.ReportRequests.{answer_count}
use Rattle.hist_model.specs.declared.event.Event.{Event}
use Rattle.hist_model.specs.declared.report.Audit.{Audit}
use Rattle.audit_log.specs.declared.count.EventCounts.{EventCounts}
use Rattle.audit_log.specs.declared.summary.Counts.{Counts}

-- what is counted while the events are gone through is so of these events
pub record AreCounted (K : List Event) (c : EventCounts) : Type 0 where
  pub notified : c.notified ≡ count_by (λ e. notifies e.what) K
  pub sent : c.sent ≡ count_by (λ e. is_sent e.what) K

-- those of a history whose sessions came to these
abbrev pub counted : List Event → List Audit → Counts
counted H found = record {
  events = length H;
  calls = count_by (λ e. enters e.what) H;
  notified = count_by (λ e. notifies e.what) H;
  answered = answer_count H;
  granted = count_by (λ a. grants a.finding) found;
  denied = count_by (λ a. denies a.finding) found;
  passed = count_by (λ a. passes a.finding) found;
  injected = count_by (λ a. injects a.finding) found;
  faults = count_by (λ a. faults a.finding) found;
  gone = count_by (λ a. is_gone_session a.finding) found;
  lost = count_by (λ a. loses a.arrival) found;
}

-- those of a history
abbrev pub counts_of : Judging → List Event → Counts
counts_of J H = counted H (audits J H H)

-- those of no history
abbrev pub no_counts : Counts
no_counts = record {
  events = 0;
  calls = 0;
  notified = 0;
  answered = 0;
  granted = 0;
  denied = 0;
  passed = 0;
  injected = 0;
  faults = 0;
  gone = 0;
  lost = 0;
}

-- those of two histories together
abbrev pub plus : Counts → Counts → Counts
plus c d = record {
  events = c.events + d.events;
  calls = c.calls + d.calls;
  notified = c.notified + d.notified;
  answered = c.answered + d.answered;
  granted = c.granted + d.granted;
  denied = c.denied + d.denied;
  passed = c.passed + d.passed;
  injected = c.injected + d.injected;
  faults = c.faults + d.faults;
  gone = c.gone + d.gone;
  lost = c.lost + d.lost;
}

-- the numbers of events, calls, listed calls and answers, each behind its name
unfoldable pub event_words : Counts → List ℕ
event_words c = codes " events=" ++ decimal c.events ++ codes " calls=" ++ decimal c.calls ++ codes " notified=" ++ decimal c.notified
    ++ codes " answered=" ++ decimal c.answered

-- how many sessions came to what
unfoldable pub finding_words : Counts → List ℕ
finding_words c =
    codes " granted=" ++ decimal c.granted ++ codes " denied=" ++ decimal c.denied ++ codes " passed=" ++ decimal c.passed
    ++ codes " injected=" ++ decimal c.injected
    ++ codes " faults=" ++ decimal c.faults ++ codes " gone=" ++ decimal c.gone ++ codes " lost=" ++ decimal c.lost ++ codes "\n"

-- what a summary has behind its first word
abbrev pub counts_words : Counts → List ℕ
counts_words c = event_words c ++ finding_words c

-- the line of a summary with these counts
abbrev pub summary_words : Counts → List ℕ
summary_words c = codes "summary" ++ counts_words c
