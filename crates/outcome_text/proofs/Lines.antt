-- What is kept of the calls and of the sessions gives the lines of each call.
-- By what is kept of each (`TellsCalls`, `session_row`): a call's record is its task's, and its session's steps are those of the worker.
use Rattle.std.proofs.Common.{◌≡◌, ℕ, ◌+◌, ◌<◌, ◌≤◌, take, reverse, append-nil, Bool, true, false, List, [], ◌∷◌, ◌++◌, length, get_or, Option, Some, None, refl, sym, ap, ap₂, ◌∙◌, subst, append_assoc, arith}
use Rattle.std.specs.Prelude.{if◌then◌else◌, map, option_map, Ok}
use Rattle.std.specs.List.{flat_map}
use Rattle.std.proofs.lemmas.Bool.{and_parts}
use Rattle.std.proofs.lemmas.List.{length-append, take_all}
use Rattle.hist_model.specs.Kinds.{enters}
use Rattle.hist_model.specs.Look.{Name, is_place, is_task, task_name}
use Rattle.hist_model.specs.ReportAudit.{Judging, call_with_id, installed, session_at}
use Rattle.hist_model.specs.ReportCalls.{outcome}
use Rattle.hist_model.specs.ReportJournal.{lines_of}
use Rattle.hist_model.specs.Sessions.{or_some}
use Rattle.hist_model.specs.declared.event.Actor.{Actor}
use Rattle.hist_model.specs.declared.event.Actor.TheVariants.{Worker}
use Rattle.hist_model.specs.declared.event.Event.{Event}
use Rattle.hist_model.specs.declared.event.What.{What}
use Rattle.hist_model.specs.declared.event.What.TheVariants.{Recv}
use Rattle.audit_log.specs.Begun.{Begun, told}
use Rattle.audit_log.specs.CallTable.{TellsCalls}
use Rattle.audit_log.specs.Places.{call_in}
use Rattle.audit_log.specs.Records.{record_in}
use Rattle.audit_log.specs.Served.{TellsSessions, row_at, session_by, session_for}
use Rattle.audit_log.specs.SessionStages.{stages_at}
use Rattle.audit_log.specs.Sessions.{begun}
use Rattle.audit_log.specs.declared.kept_calls.CallTable.{CallTable}
use Rattle.audit_log.specs.declared.session.SessionRecord.{SessionRecord}
use Rattle.audit_log.proofs.Past.{past_more}
use Rattle.audit_log.proofs.Recorded.{task_of}
use Rattle.audit_log.proofs.ServedCalls.{session_row}
use Rattle.audit_log.proofs.SessionFound.{finding_told}
use Rattle.outcome_text.specs.Outcomes.{call_lines, calls_of, entry_of, is_call_of, result_with, session_text, task_names}
use Rattle.outcome_text.specs.Tables.{kept_text, lines_by}

-- ---- The steps of a session

own-steps : (H : List Event) (c : ℕ) (K : List Event) (who : Actor) (a : What) (s : Begun) → session_by H c K who a ≡ Some s → s.steps ≡ session_at s.worker s.place H
own-steps H c K (Worker w) (Recv (Ok notif)) s h = by (is_place (call_with_id notif.id K) c) h
  where
    by : (b : Bool)
        → (if b then Some (record { place = length K; worker = w; notif = notif; steps = session_at w (length K) H; stages = stages_at w (length K) H }) else None) ≡ Some s
        → s.steps ≡ session_at s.worker s.place H
    by true q =
        let one : Begun = record { place = length K; worker = w; notif = notif; steps = session_at w (length K) H; stages = stages_at w (length K) H } in
        let is : one ≡ s = cc in
        subst (λ (x : Begun). x.steps ≡ session_at x.worker x.place H) is refl
    by false q = cc
own-steps H c K _ _ s h = cc

pub session-steps : (H : List Event) (c : ℕ) (K : List Event) (s : Begun) → session_for H c K ≡ Some s → s.steps ≡ session_at s.worker s.place H
unfolding session_for
session-steps H c [] s h = cc
session-steps H c (e ∷ K) s h = by (session_by H c K e.who e.what) refl h (session-steps H c K s)
  where
    by : (o : Option Begun) → session_by H c K e.who e.what ≡ o → or_some o (session_for H c K) ≡ Some s
        → (session_for H c K ≡ Some s → s.steps ≡ session_at s.worker s.place H) → s.steps ≡ session_at s.worker s.place H
    by None q older rest = rest older
    by (Some t) q here rest = own-steps H c K e.who e.what s (q ∙ here)

-- ---- A line

session-kept : (J : Judging) (places : List ℕ) (H : List Event) (number : Option ℕ) (o : Option Begun) → ((s : Begun) → o ≡ Some s → s.steps ≡ session_at s.worker s.place H)
    → kept_text J places H number (option_map (told J) o) ≡ session_text J places number o
session-kept J places H number None own = refl
session-kept J places H number (Some s) own = rw (finding_told J s, ← own s refl) refl

module _ (J : Judging) (places : List ℕ) (H : List Event) (calls : CallTable) (rows : List SessionRecord) (served : List (Option ℕ))
    (tells : TellsCalls H calls) (kept : rows ≡ map (told J) (begun H H)) (sessions : TellsSessions (call_in calls.received) rows (length H) served) where
  line-same : (n : Name) (later K : List Event) (e : Event) → H ≡ later ++ e ∷ K → lines_by J places H calls rows served n K e ≡ call_lines J places H n K e
  line-same n later K e q = by (is_call_of n e) refl
    where
      size : length H ≡ length later + length (e ∷ K)
      size = ap length q ∙ length-append later (e ∷ K)

      session : (number : Option ℕ) → kept_text J places H number (row_at rows (get_or served (length K) None)) ≡ session_text J places number (session_for H (length K) H)
      session number =
          ap (kept_text J places H number) (session_row J (call_in calls.received) H rows served kept tells.received sessions (length K) (omega (arith, size)))
          ∙ session-kept J places H number (session_for H (length K) H) (session-steps H (length K) H)

      own : is_call_of n e ≡ true → task_name e.who ≡ n
      own h = task_of e.who n (and_parts (is_task e.who n) (enters e.what) h).0

      entering : is_call_of n e ≡ true → enters e.what ≡ true
      entering h = (and_parts (is_task e.who n) (enters e.what) h).1

      by : (b : Bool) → is_call_of n e ≡ b
          → (if b
          then entry_of n (calls_of n K + 1) e.what (record_in calls.entered (length K)).outcome
          ++ kept_text J places H (record_in calls.entered (length K)).number (row_at rows (get_or served (length K) None))
          else [])
          ≡ (if b
          then entry_of n (calls_of n K + 1) e.what (outcome n (length K) H) ++ session_text J places (installed n (length K) H) (session_for H (length K) H)
          else [])
      by true h =
          let came : (record_in calls.entered (length K)).outcome ≡ outcome n (length K) H = ap (λ r. r.outcome) (tells.records later K e q (entering h)) ∙ ap (λ m. outcome m (length K) H) (own h) in
          let number : (record_in calls.entered (length K)).number ≡ installed n (length K) H = ap (λ r. r.number) (tells.records later K e q (entering h)) ∙ ap (λ m. installed m (length K) H) (own h) in
          ap₂ (λ text more. text ++ more) (ap (entry_of n (calls_of n K + 1) e.what) came)
          (session (record_in calls.entered (length K)).number ∙ ap (λ m. session_text J places m (session_for H (length K) H)) number)
      by false h = refl

  lines-from : (n : Name) (later K : List Event) → H ≡ later ++ K → lines_of (lines_by J places H calls rows served n) K ≡ lines_of (call_lines J places H n) K
  unfolding lines_of
  lines-from n later [] q = refl
  lines-from n later (e ∷ K) q =
      let whole : H ≡ (later ++ e ∷ []) ++ K = q ∙ sym (append_assoc later (e ∷ []) K) in
      ap₂ (λ text line. text ++ line) (lines-from n (later ++ e ∷ []) K whole) (line-same n later K e q)

  pub result_same : (names : List Name) → names ≡ task_names H → flat_map (λ n. lines_of (lines_by J places H calls rows served n) H) names ≡ result_with J places H
  unfolding result_with
  result_same names q =
      let same : (λ n. lines_of (lines_by J places H calls rows served n) H) ≡ (λ n. lines_of (call_lines J places H n) H) = (λ i. λ n. lines-from n [] H refl i) in
      ap₂ (λ f xs. flat_map f xs) same q

-- ---- The loop over the events

-- the lines of the first events stand behind a text, and so many calls of the task were among them
pub record AreTold (f : List Event → Event → List ℕ) (n : Name) (K : List Event) (text line : List ℕ) (number : ℕ) : Type 0 where
  pub line_is : line ≡ text ++ lines_of f K
  pub number_is : number ≡ calls_of n K
  pub few : number ≤ length K

pub none_told : (f : List Event → Event → List ℕ) (n : Name) (text : List ℕ) → AreTold f n [] text text 0
unfolding lines_of calls_of
none_told f n text = record { line_is = sym (append-nil text); number_is = refl; few = omega arith }

one-if : (b : Bool) → (if b then 1 else 0) ≤ 1
one-if true = omega arith
one-if false = omega arith

-- with one more event
pub told_more : (f : List Event → Event → List ℕ) (n : Name) (K : List Event) (e : Event) (text mid line : List ℕ) (before after : ℕ) → AreTold f n K text mid before
    → line ≡ mid ++ f K e → after ≡ before + (if is_call_of n e then 1 else 0) → AreTold f n (e ∷ K) text line after
unfolding lines_of calls_of
told_more f n K e text mid line before after t q a = record {
  line_is = q ∙ (ap (λ more. more ++ f K e) t.line_is ∙ append_assoc text (lines_of f K) (f K e));
  number_is = a ∙ ap (λ k. k + (if is_call_of n e then 1 else 0)) t.number_is;
  few = omega (arith, a, one-if (is_call_of n e), t.few);
}

-- with one more of the events of a history, whose place it has
pub told_next : (f : List Event → Event → List ℕ) (n : Name) (xs : List Event) (i : ℕ) (d : Event) (text mid line more : List ℕ) (before after : ℕ) → i < length xs
    → AreTold f n (reverse (take i xs)) text mid before → line ≡ mid ++ more → more ≡ f (reverse (take i xs)) (get_or xs i d) → after ≡ before + (if is_call_of n (get_or xs i d) then 1 else 0)
    → AreTold f n (reverse (take (i + 1) xs)) text line after
told_next f n xs i d text mid line more before after l t q m a =
    subst (λ K. AreTold f n K text line after) (sym (past_more xs i d l)) (told_more f n (reverse (take i xs)) (get_or xs i d) text mid line before after t (q ∙ ap (λ x. mid ++ x) m) a)

-- all events are past
pub all_told : (f : List Event → Event → List ℕ) (n : Name) (xs : List Event) (i : ℕ) (text line : List ℕ) (number : ℕ) → length xs ≤ i → AreTold f n (reverse (take i xs)) text line number
    → line ≡ text ++ lines_of f (reverse xs)
all_told f n xs i text line number l t = t.line_is ∙ ap (λ ys. text ++ lines_of f (reverse ys)) (take_all i xs l)
