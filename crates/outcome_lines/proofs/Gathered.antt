-- What is kept of the calls and of the sessions gives the line of each call.
-- By what is kept of each (`TellsCalls`, `session_row`): a call's record is its task's, and its session's steps are those of the worker.
use Rattle.std.proofs.Common.{◌≡◌, ℕ, ◌+◌, ◌<◌, ◌≤◌, take, reverse, append-nil, Bool, true, false, List, [], ◌∷◌, ◌++◌, length, get_or, Option, Some, None, refl, sym, ap, ap₂, ◌∙◌, subst, append_assoc, arith}
use Rattle.std.specs.Prelude.{find, if◌then◌else◌, is_some, map, option_map}
use Rattle.std.specs.List.{flat_map}
use Rattle.std.proofs.lemmas.Bool.{and_parts}
use Rattle.std.proofs.lemmas.List.{length-append, take_all}
use Rattle.hist_model.specs.Kinds.{enters}
use Rattle.hist_model.specs.Look.{Name, is_task, task_name}
use Rattle.hist_model.specs.ReportAudit.{Judging, installed, session_at}
use Rattle.hist_model.specs.ReportCalls.{outcome}
use Rattle.hist_model.specs.declared.event.Event.{Event}
use Rattle.hist_model.specs.declared.event.What.{What}
use Rattle.hist_model.specs.declared.event.What.TheVariants.{Enter}
use Rattle.hist_model.specs.declared.report.Outcome.{Outcome}
use Rattle.hist_model.proofs.Look.{event_at-above}
use Rattle.audit_log.specs.Begun.{Begun, told}
use Rattle.audit_log.specs.CallTable.{TellsCalls}
use Rattle.audit_log.specs.Places.{call_in}
use Rattle.audit_log.specs.Records.{record_in}
use Rattle.audit_log.specs.Served.{TellsSessions, row_at, session_for}
use Rattle.audit_log.specs.Sessions.{begun}
use Rattle.audit_log.specs.declared.kept_calls.CallTable.{CallTable}
use Rattle.audit_log.specs.declared.session.SessionRecord.{SessionRecord}
use Rattle.audit_log.proofs.Past.{past_more}
use Rattle.audit_log.proofs.Recorded.{task_of}
use Rattle.audit_log.proofs.ServedCalls.{session_row}
use Rattle.audit_log.proofs.SessionFound.{finding_told}
use Rattle.outcome_text.specs.Outcomes.{calls_of, is_call_of, task_names}
use Rattle.outcome_text.specs.declared.mark.Mark.{Mark}
use Rattle.outcome_text.proofs.Lines.{session-steps}
use Rattle.outcome_lines.specs.Lines.{gathered, has_place, line_at, line_of, lines_with, sight_in, told_if, unnamed}
use Rattle.outcome_lines.specs.Tables.{kept_by, kept_line, kept_told_if}
use Rattle.outcome_lines.specs.declared.line.Line.{Line}
use Rattle.outcome_lines.specs.declared.line.Told.{Told}

-- ---- What would take an effect from sight

-- a mark past the events shows nothing
pub unmarked : (H : List Event) (ms : List Mark) (p : ℕ) (m : Mark) (o : Option ℕ) → o ≡ Some p → find (has_place p) ms ≡ Some m → length H ≤ m.place → None ≡ sight_in H ms o
unmarked H ms p m o q f l = rw (q, f, event_at-above H m.place l) refl

-- ---- A line

session-kept : (J : Judging) (ms : List Mark) (H : List Event) (o : Option Begun) → ((s : Begun) → o ≡ Some s → s.steps ≡ session_at s.worker s.place H)
    → kept_told_if ms H (option_map (told J) o) ≡ told_if J ms H o
session-kept J ms H None own = refl
session-kept J ms H (Some s) own = rw (finding_told J s, ← own s refl) refl

-- a line with these facts
abbrev with_facts : Name → ℕ → What → Outcome → Option ℕ → Option Told → List Line
with_facts n number (Enter nr args verdict) came given session =
    record { name = n; number = number; nr = nr; verdict = unnamed verdict; came = came; installed = is_some given; session = session } ∷ []
with_facts n number _ came given session = []

kept-facts : (ms : List Mark) (H : List Event) (calls : CallTable) (x : Option SessionRecord) (n : Name) (place before : ℕ) (a : What)
    → kept_line ms H calls x n place before a ≡ with_facts n (before + 1) a (record_in calls.entered place).outcome (record_in calls.entered place).number (kept_told_if ms H x)
kept-facts ms H calls x n place before (Enter nr args verdict) = refl
kept-facts ms H calls x n place before _ = refl

line-facts : (J : Judging) (ms : List Mark) (H : List Event) (n : Name) (K : List Event) (a : What)
    → line_of J ms H n K a ≡ with_facts n (calls_of n K + 1) a (outcome n (length K) H) (installed n (length K) H) (told_if J ms H (session_for H (length K) H))
line-facts J ms H n K (Enter nr args verdict) = refl
line-facts J ms H n K _ = refl

module _ (J : Judging) (ms : List Mark) (H : List Event) (calls : CallTable) (rows : List SessionRecord) (served : List (Option ℕ))
    (tells : TellsCalls H calls) (kept : rows ≡ map (told J) (begun H H)) (sessions : TellsSessions (call_in calls.received) rows (length H) served) where
  line-same : (n : Name) (later K : List Event) (e : Event) → H ≡ later ++ e ∷ K → kept_by ms H calls rows served n K e ≡ line_at J ms H n K e
  line-same n later K e q = by (is_call_of n e) refl
    where
      size : length H ≡ length later + length (e ∷ K)
      size = ap length q ∙ length-append later (e ∷ K)

      session : kept_told_if ms H (row_at rows (get_or served (length K) None)) ≡ told_if J ms H (session_for H (length K) H)
      session =
          ap (kept_told_if ms H) (session_row J (call_in calls.received) H rows served kept tells.received sessions (length K) (omega (arith, size)))
          ∙ session-kept J ms H (session_for H (length K) H) (session-steps H (length K) H)

      own : is_call_of n e ≡ true → task_name e.who ≡ n
      own h = task_of e.who n (and_parts (is_task e.who n) (enters e.what) h).0

      entering : is_call_of n e ≡ true → enters e.what ≡ true
      entering h = (and_parts (is_task e.who n) (enters e.what) h).1

      by : (b : Bool) → is_call_of n e ≡ b
          → (if b then kept_line ms H calls (row_at rows (get_or served (length K) None)) n (length K) (calls_of n K) e.what else [])
          ≡ (if b then line_of J ms H n K e.what else [])
      by true h =
          let came : (record_in calls.entered (length K)).outcome ≡ outcome n (length K) H = ap (λ r. r.outcome) (tells.records later K e q (entering h)) ∙ ap (λ m. outcome m (length K) H) (own h) in
          let number : (record_in calls.entered (length K)).number ≡ installed n (length K) H = ap (λ r. r.number) (tells.records later K e q (entering h)) ∙ ap (λ m. installed m (length K) H) (own h) in
          kept-facts ms H calls (row_at rows (get_or served (length K) None)) n (length K) (calls_of n K) e.what
          ∙ (ap₂ (λ (o : Outcome) (t : Option Told). with_facts n (calls_of n K + 1) e.what o (record_in calls.entered (length K)).number t) came session
          ∙ (ap (λ (g : Option ℕ). with_facts n (calls_of n K + 1) e.what (outcome n (length K) H) g (told_if J ms H (session_for H (length K) H))) number
          ∙ sym (line-facts J ms H n K e.what)))
      by false h = refl

  lines-from : (n : Name) (later K : List Event) → H ≡ later ++ K → gathered (kept_by ms H calls rows served n) K ≡ gathered (line_at J ms H n) K
  unfolding gathered
  lines-from n later [] q = refl
  lines-from n later (e ∷ K) q =
      let whole : H ≡ (later ++ e ∷ []) ++ K = q ∙ sym (append_assoc later (e ∷ []) K) in
      ap₂ (λ lines line. lines ++ line) (lines-from n (later ++ e ∷ []) K whole) (line-same n later K e q)

  pub lines_same : (names : List Name) → names ≡ task_names H → flat_map (λ n. gathered (kept_by ms H calls rows served n) H) names ≡ lines_with J ms H
  unfolding lines_with
  lines_same names q =
      let same : (λ n. gathered (kept_by ms H calls rows served n) H) ≡ (λ n. gathered (line_at J ms H n) H) = (λ i. λ n. lines-from n [] H refl i) in
      ap₂ (λ f xs. flat_map f xs) same q

-- ---- The loop over the events

-- the lines of the first events stand behind others, and so many calls of the task were among them
pub record AreGathered (f : List Event → Event → List Line) (n : Name) (K : List Event) (first lines : List Line) (number : ℕ) : Type 0 where
  pub lines_are : lines ≡ first ++ gathered f K
  pub number_is : number ≡ calls_of n K
  pub few : number ≤ length K

pub none_gathered : (f : List Event → Event → List Line) (n : Name) (first : List Line) → AreGathered f n [] first first 0
unfolding gathered calls_of
none_gathered f n first = record { lines_are = sym (append-nil first); number_is = refl; few = omega arith }

one-if : (b : Bool) → (if b then 1 else 0) ≤ 1
one-if true = omega arith
one-if false = omega arith

-- with one more event
gathered_more : (f : List Event → Event → List Line) (n : Name) (K : List Event) (e : Event) (first mid lines : List Line) (before after : ℕ) → AreGathered f n K first mid before
    → lines ≡ mid ++ f K e → after ≡ before + (if is_call_of n e then 1 else 0) → AreGathered f n (e ∷ K) first lines after
unfolding gathered calls_of
gathered_more f n K e first mid lines before after t q a = record {
  lines_are = q ∙ (ap (λ more. more ++ f K e) t.lines_are ∙ append_assoc first (gathered f K) (f K e));
  number_is = a ∙ ap (λ k. k + (if is_call_of n e then 1 else 0)) t.number_is;
  few = omega (arith, a, one-if (is_call_of n e), t.few);
}

-- with one more of the events of a history, whose place it has
pub gathered_next : (f : List Event → Event → List Line) (n : Name) (xs : List Event) (i : ℕ) (d : Event) (first mid lines more : List Line) (before after : ℕ) → i < length xs
    → AreGathered f n (reverse (take i xs)) first mid before → lines ≡ mid ++ more → more ≡ f (reverse (take i xs)) (get_or xs i d) → after ≡ before + (if is_call_of n (get_or xs i d) then 1 else 0)
    → AreGathered f n (reverse (take (i + 1) xs)) first lines after
gathered_next f n xs i d first mid lines more before after l t q m a =
    subst (λ K. AreGathered f n K first lines after) (sym (past_more xs i d l))
    (gathered_more f n (reverse (take i xs)) (get_or xs i d) first mid lines before after t (q ∙ ap (λ x. mid ++ x) m) a)

-- all events are past
pub all_gathered : (f : List Event → Event → List Line) (n : Name) (xs : List Event) (i : ℕ) (first lines : List Line) (number : ℕ) → length xs ≤ i → AreGathered f n (reverse (take i xs)) first lines number
    → lines ≡ first ++ gathered f (reverse xs)
all_gathered f n xs i first lines number l t = t.lines_are ∙ ap (λ ys. first ++ gathered f (reverse ys)) (take_all i xs l)
