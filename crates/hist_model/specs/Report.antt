-- The report of a history: its journal, its calls, the audit of its sessions, and a summary. It is told of any list of events, whose
-- workers may have any of the 256 numbers of a byte. Of a list that is no legal history, each part tells what its definition makes of
-- it, and one pass from the oldest event on can follow each: a task is in one call at most, and a worker in one session.
use Rattle.std.specs.Prelude.{ℕ, Bool, true, false, List, [], ◌∷◌, ◌++◌, length, Ok, codes, decimal, count_by}
use Rattle.hist_model.specs.ReportJournal.{journal}
use Rattle.hist_model.specs.Kinds.{notifies, enters}
use Rattle.hist_model.specs.ReportCalls.{calls}
use Rattle.hist_model.specs.ReportAudit.{Judging, audit, audit_of}
use Rattle.hist_model.specs.ReportRequests.{answer_count}
use Rattle.hist_model.specs.declared.event.Actor.{Actor}
use Rattle.hist_model.specs.declared.event.Actor.TheVariants.{Worker}
use Rattle.hist_model.specs.declared.event.Event.{Event}
use Rattle.hist_model.specs.declared.event.What.{What}
use Rattle.hist_model.specs.declared.event.What.TheVariants.{Recv}
use Rattle.hist_model.specs.declared.report.Finding.{Finding}
use Rattle.hist_model.specs.declared.report.Finding.TheVariants.{Gone, Fault, Spent, Granted, Denied, Passed, Injected}
use Rattle.hist_model.specs.declared.report.Arrival.{Arrival}
use Rattle.hist_model.specs.declared.report.Arrival.TheVariants.{Lost}
use Rattle.hist_model.specs.declared.report.Audit.{Audit}

abbrev pub grants : Finding → Bool
grants (Granted i) = true
grants _ = false

abbrev pub denies : Finding → Bool
denies (Denied i) = true
denies (Spent i) = true
denies _ = false

abbrev pub passes : Finding → Bool
passes (Passed i) = true
passes _ = false

abbrev pub injects : Finding → Bool
injects (Injected i) = true
injects _ = false

abbrev pub faults : Finding → Bool
faults Fault = true
faults _ = false

abbrev pub is_gone_session : Finding → Bool
is_gone_session Gone = true
is_gone_session _ = false

abbrev pub loses : Arrival → Bool
loses Lost = true
loses _ = false

-- in the history H, what came of the session that the step after K begins, if it begins one
abbrev pub audits_by : Judging → List Event → List Event → Actor → What → List Audit
audits_by J H K (Worker w) (Recv (Ok notif)) = audit_of J H K w notif ∷ []
audits_by J H K _ _ = []

-- in the history H, what came of each session that was begun in K, the oldest first
unfoldable pub audits : Judging → List Event → List Event → List Audit
audits J H [] = []
audits J H (e ∷ K) = audits J H K ++ audits_by J H K e.who e.what

-- the first words of a summary: the number of events, of calls, of listed calls and of answers
unfoldable pub counts_text : ℕ → ℕ → ℕ → ℕ → List ℕ
counts_text events entered notified answered =
    codes "summary events=" ++ decimal events ++ codes " calls=" ++ decimal entered ++ codes " notified=" ++ decimal notified
    ++ codes " answered=" ++ decimal answered

-- its other words: how many sessions came to what
unfoldable pub findings_text : List Audit → List ℕ
findings_text found =
    codes " granted=" ++ decimal (count_by (λ a. grants a.finding) found)
    ++ codes " denied=" ++ decimal (count_by (λ a. denies a.finding) found)
    ++ codes " passed=" ++ decimal (count_by (λ a. passes a.finding) found)
    ++ codes " injected=" ++ decimal (count_by (λ a. injects a.finding) found)
    ++ codes " faults=" ++ decimal (count_by (λ a. faults a.finding) found)
    ++ codes " gone=" ++ decimal (count_by (λ a. is_gone_session a.finding) found)
    ++ codes " lost=" ++ decimal (count_by (λ a. loses a.arrival) found) ++ codes "\n"

-- the summary's line
abbrev pub summary : Judging → List Event → List ℕ
summary J H =
    counts_text (length H) (count_by (λ e. enters e.what) H) (count_by (λ e. notifies e.what) H) (answer_count H)
    ++ findings_text (audits J H H)

-- the whole report
abbrev pub report : Judging → List Event → List ℕ
report J H = journal H ++ calls H ++ audit J H ++ summary J H
