-- The audit of a report: one line for each session, with the rule that decided, what was answered, and whether that reached the call.
use Rattle.std.specs.Prelude.{ℕ, Bool, true, false, ◌&&◌, ◌||◌, not, if◌then◌else◌, ◌==◌, List, [], ◌∷◌, ◌++◌, length, Option, Some, None}
use Rattle.std.specs.Prelude.{Result, Ok, pos, codes, decimal, count_by, is_some}
use Rattle.std.specs.List.{list_any}
use Rattle.sys_abi.specs.declared.wire.Notif.{Notif}
use Rattle.hist_model.specs.Look.{Name, is_worker}
use Rattle.hist_model.specs.Calls.{caller}
use Rattle.hist_model.specs.Kinds.{skips, starts, is_letgo, is_good_check, is_gone, is_spent, misses_call, is_sent}
use Rattle.hist_model.specs.Copies.{Progress, Wants, Complete, Faulty as Broken, plan, progress, heard}
use Rattle.hist_model.specs.Requests.{request}
use Rattle.hist_model.specs.Decisions.{decide, rule_name}
use Rattle.hist_model.specs.ReportWords.{call_text, back_text}
use Rattle.hist_model.specs.ReportJournal.{lines_of, title}
use Rattle.hist_model.specs.ReportCalls.{is_inside}
use Rattle.hist_model.specs.declared.event.Actor.{Actor}
use Rattle.hist_model.specs.declared.event.Actor.TheVariants.{Worker}
use Rattle.hist_model.specs.declared.event.Event.{Event}
use Rattle.hist_model.specs.declared.event.What.{What}
use Rattle.hist_model.specs.declared.event.What.TheVariants.{Enter, Install, Recv, Read, Send}
use Rattle.hist_model.specs.declared.event.Entered.TheVariants.{Notify}
use Rattle.hist_model.specs.declared.event.Back.{Back}
use Rattle.hist_model.specs.declared.event.Back.TheVariants.{Value}
use Rattle.hist_model.specs.declared.policy.Rule.{Rule}
use Rattle.hist_model.specs.declared.policy.Verdict.{Verdict}
use Rattle.hist_model.specs.declared.policy.Verdict.TheVariants.{Grant, Deny, Pass, Inject}
use Rattle.hist_model.specs.declared.report.Judged.{Judged}
use Rattle.hist_model.specs.declared.report.Judged.TheVariants.{Unfinished, Faulty, Decided}
use Rattle.hist_model.specs.declared.report.Finding.{Finding}
use Rattle.hist_model.specs.declared.report.Finding.TheVariants.{Gone, Open, Fault, Spent, Granted, Denied, Passed, Injected}
use Rattle.hist_model.specs.declared.report.Arrival.{Arrival}
use Rattle.hist_model.specs.declared.report.Arrival.TheVariants.{Sent, Lost, Unsent}
use Rattle.hist_model.specs.declared.report.Audit.{Audit}

-- what the policy makes of a notification and of what a session read for it, the oldest answer first; and the names of its rules
pub record Judging : Type 0 where
  pub judge : Notif → List (Result (List ℕ) ℕ) → Judged
  pub name : ℕ → List ℕ

-- a decision, by the place of its rule
abbrev pub judged_as : ℕ × Verdict → Judged
judged_as (i, verdict) = Decided i verdict

-- what the rules make of a copy, as far as it is read
abbrev pub judged_by : List Rule → Notif → Progress → Judged
judged_by rules notif (Wants address n) = Unfinished
judged_by rules notif (Complete texts) = judged_as (decide rules (request notif.call.nr notif.call.args texts))
judged_by rules notif (Broken e) = Faulty e

-- what the rules make of a notification and of these answers. An answer that isn't one to the piece that is wanted counts for
-- nothing; in a legal history every answer is.
abbrev pub judged_after : List Rule → Notif → List (Result (List ℕ) ℕ) → Judged
judged_after rules notif answers =
    let parts = plan notif.call.nr notif.call.args in judged_by rules notif (progress parts (heard parts [] answers))

-- the judging by the rules of a policy
abbrev pub judging_by : List Rule → Judging
judging_by rules = record {
  judge = λ notif answers. judged_after rules notif answers;
  name = rule_name rules;
}

abbrev pub has_begun : List What → Bool
has_begun [] = false
has_begun (a ∷ own) = true

-- a session that hasn't begun, or that is over: its worker let go, or received another notification
abbrev pub is_shut : List What → Bool
is_shut [] = true
is_shut (a ∷ own) = is_letgo a || (starts a && has_begun own)

-- one more step of a session; none before its first, and none after the one that ended it
abbrev pub joined : List What → What → List What
joined own a = if is_shut own then own else (a ∷ own)

-- one more step: whether it is the session's first, whether it is its worker's, and the session's steps before
abbrev pub session_step : Bool → Bool → List What → What → List What
session_step true own before a = a ∷ []
session_step false true before a = joined before a
session_step false false before a = before

-- the steps of the session that worker w began at place r, the newest first: all its later ones but Skip, up to the one that ends
-- it, by which the worker lets go or receives another notification
unfoldable pub session_at : ℕ → ℕ → List Event → List What
session_at w r [] = []
session_at w r (e ∷ K) = session_step (length K == r) (is_worker e.who w && not (skips e.what)) (session_at w r K) e.what

-- what the step sent
abbrev pub back_in : What → Option Back
back_in (Send id back answer) = Some back
back_in _ = None

abbrev pub or_back : Option Back → Option Back → Option Back
or_back (Some back) before = Some back
or_back None before = before

-- what the newest send sent
abbrev pub sent_back : List What → Option Back
sent_back [] = None
sent_back (a ∷ own) = or_back (back_in a) (sent_back own)

-- what a read answered
abbrev pub read_in : What → List (Result (List ℕ) ℕ)
read_in (Read addr len answer) = answer ∷ []
read_in _ = []

-- the session found its notification valid twice: a good check came after a good check
abbrev pub checked_twice : List What → Bool
checked_twice [] = false
checked_twice (a ∷ own) = (is_good_check a && list_any is_good_check own) || checked_twice own

-- what the session's reads answered up to its second good check, the oldest first
abbrev pub reads : List What → List (Result (List ℕ) ℕ)
reads [] = []
reads (a ∷ own) = if checked_twice own then reads own else (reads own ++ read_in a)

-- the step enters a call that is listed with this id
abbrev pub is_notified : What → ℕ → Bool
is_notified (Enter nr args (Notify id)) x = id == x
is_notified _ x = false

-- the newest call with this id
unfoldable pub call_with_id : ℕ → List Event → Option ℕ
call_with_id x [] = None
call_with_id x (e ∷ K) = if is_notified e.what x then Some (length K) else call_with_id x K

-- the number that a step of the task gave while nothing had come of its call, else the one before
abbrev pub number_given : Bool → What → Option ℕ → Option ℕ
number_given true (Install (Ok n)) before = Some n
number_given _ _ before = before

-- the number of the descriptor that was installed for the call that task n entered at place c
unfoldable pub installed : Name → ℕ → List Event → Option ℕ
installed n c [] = None
installed n c (e ∷ K) = number_given (is_inside n c K e) e.what (installed n c K)

-- in the history H, the number that was installed for the call that was fetched after K
abbrev pub installed_at : List Event → List Event → Option ℕ → Option ℕ
installed_at H K None = None
installed_at H K (Some c) = installed (caller K c) c H

abbrev pub finding_of_verdict : ℕ → Verdict → Finding
finding_of_verdict i Grant = Granted i
finding_of_verdict i (Deny e) = Denied i
finding_of_verdict i Pass = Passed i
finding_of_verdict i (Inject src at) = Injected i

-- what was decided, and whether the effect was refused since the rule's times were spent
abbrev pub finding_of : Judged → Bool → Finding
finding_of Unfinished spent = Open
finding_of (Faulty e) spent = Fault
finding_of (Decided i verdict) true = Spent i
finding_of (Decided i verdict) false = finding_of_verdict i verdict

-- the session was gone, or its second check was good and it was judged, or neither
abbrev pub finding_by : Bool → Bool → Judged → Bool → Finding
finding_by true checked judged spent = Gone
finding_by false true judged spent = finding_of judged spent
finding_by false false judged spent = Open

-- what a session came to: it is judged at its second good check
abbrev pub finding : Judging → Notif → List What → Finding
finding J notif own = finding_by (list_any is_gone own) (checked_twice own) (J.judge notif (reads own)) (list_any is_spent own)

-- what was sent, else the number that was installed
abbrev pub answer_of : Option Back → Option ℕ → Option Back
answer_of (Some back) number = Some back
answer_of None (Some n) = Some (Value (pos n))
answer_of None None = None

abbrev pub arrival_of : Bool → Bool → Arrival
arrival_of true lost = Sent
arrival_of false true = Lost
arrival_of false false = Unsent

abbrev pub arrival : List What → Option ℕ → Arrival
arrival own number = arrival_of (list_any is_sent own || is_some number) (list_any misses_call own)

-- what a session with these steps came to, for whose call this number was installed
abbrev pub audit_by : Judging → Notif → List What → Option ℕ → Audit
audit_by J notif own number =
    record { finding = finding J notif own; answer = answer_of (sent_back own) number; arrival = arrival own number }

-- in the history H, what came of the session that worker w began with this notification after K
abbrev pub audit_of : Judging → List Event → List Event → ℕ → Notif → Audit
audit_of J H K w notif = audit_by J notif (session_at w (length K) H) (installed_at H K (call_with_id notif.id K))

abbrev pub finding_text : Finding → List ℕ
finding_text Gone = codes "gone"
finding_text Open = codes "open"
finding_text Fault = codes "fault"
finding_text (Spent i) = codes "spent"
finding_text (Granted i) = codes "grant"
finding_text (Denied i) = codes "deny"
finding_text (Passed i) = codes "pass"
finding_text (Injected i) = codes "inject"

-- the place of the rule that decided
abbrev pub rule_of : Finding → Option ℕ
rule_of (Spent i) = Some i
rule_of (Granted i) = Some i
rule_of (Denied i) = Some i
rule_of (Passed i) = Some i
rule_of (Injected i) = Some i
rule_of _ = None

abbrev pub rule_text : Judging → Option ℕ → List ℕ
rule_text J (Some i) = J.name i
rule_text J None = codes "-"

abbrev pub answer_text : Option Back → List ℕ
answer_text (Some back) = back_text back
answer_text None = codes "-"

abbrev pub arrival_text : Arrival → List ℕ
arrival_text Sent = codes "sent"
arrival_text Lost = codes "lost"
arrival_text Unsent = codes "none"

-- the line of a session: its place, its worker, and its notification's id and call
abbrev pub audit_line_of : Judging → ℕ → ℕ → Notif → Audit → List ℕ
audit_line_of J r w notif a =
    decimal r ++ codes " w" ++ decimal w ++ codes " id=" ++ decimal notif.id ++ codes " " ++ call_text notif.call.nr
    ++ codes " rule=" ++ rule_text J (rule_of a.finding) ++ codes " verdict=" ++ finding_text a.finding
    ++ codes " answer=" ++ answer_text a.answer ++ codes " reply=" ++ arrival_text a.arrival ++ codes "\n"

-- a worker received a notification
abbrev pub begins_by : Actor → What → Bool
begins_by (Worker w) (Recv (Ok notif)) = true
begins_by _ _ = false

abbrev pub begins : Event → Bool
begins e = begins_by e.who e.what

-- in the history H, the line of the step that comes after K, where it begins a session
abbrev pub audit_line_by : Judging → List Event → List Event → Actor → What → List ℕ
audit_line_by J H K (Worker w) (Recv (Ok notif)) = audit_line_of J (length K) w notif (audit_of J H K w notif)
audit_line_by J H K _ _ = []

abbrev pub audit_line : Judging → List Event → List Event → Event → List ℕ
audit_line J H K e = audit_line_by J H K e.who e.what

-- the audit: a line for each session, from the oldest on
abbrev pub audit : Judging → List Event → List ℕ
audit J H = title (codes "audit") (count_by begins H) ++ lines_of (audit_line J H) H
