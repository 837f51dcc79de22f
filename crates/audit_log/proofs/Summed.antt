-- The line of a summary with a history's counts is the history's summary.
-- By the equations of both texts, and of each count.
use Rattle.std.proofs.Common.{◌≡◌, ℕ, List, length, refl}
use Rattle.std.specs.Prelude.{count_by}
use Rattle.audit_log.specs.Counts.{counted, counts_of, event_words, finding_words, summary_words}
use Rattle.audit_log.specs.declared.summary.Counts.{Counts}
use Rattle.hist_model.specs.Kinds.{enters, notifies}
use Rattle.hist_model.specs.Report.{counts_text, denies, faults, findings_text, grants, injects, is_gone_session, loses, passes, summary}
use Rattle.hist_model.specs.ReportAudit.{Judging}
use Rattle.hist_model.specs.ReportRequests.{answer_count}
use Rattle.hist_model.specs.declared.event.Event.{Event}
use Rattle.hist_model.specs.declared.report.Audit.{Audit}

pub summary_told : (J : Judging) (H : List Event) → summary_words (counts_of J H) ≡ summary J H
unfolding counts_text findings_text event_words finding_words
summary_told J H = refl

abbrev counts : (events calls notified answered granted denied passed injected faulty gone lost : ℕ) → Counts
counts events calls notified answered granted denied passed injected faulty gone lost = record {
  events = events;
  calls = calls;
  notified = notified;
  answered = answered;
  granted = granted;
  denied = denied;
  passed = passed;
  injected = injected;
  faults = faulty;
  gone = gone;
  lost = lost;
}

-- counts that are each a history's are the history's
pub counts_are : (H : List Event) (found : List Audit) (events calls notified answered granted denied passed injected faulty gone lost : ℕ)
    → events ≡ length H → calls ≡ count_by (λ e. enters e.what) H → notified ≡ count_by (λ e. notifies e.what) H → answered ≡ answer_count H
    → granted ≡ count_by (λ a. grants a.finding) found → denied ≡ count_by (λ a. denies a.finding) found → passed ≡ count_by (λ a. passes a.finding) found
    → injected ≡ count_by (λ a. injects a.finding) found → faulty ≡ count_by (λ a. faults a.finding) found
    → gone ≡ count_by (λ a. is_gone_session a.finding) found → lost ≡ count_by (λ a. loses a.arrival) found
    → counts events calls notified answered granted denied passed injected faulty gone lost ≡ counted H found
counts_are H found events calls notified answered granted denied passed injected faulty gone lost e c n a g d p i f o l = rw (e, c, n, a, g, d, p, i, f, o, l) refl
