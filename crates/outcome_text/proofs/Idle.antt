-- A step changes nothing that a history comes to, where it is no task's, receives nothing, and its worker has let go.
-- By what the step adds: no line, no outcome and no session's step; and by induction on the events before it.
use Rattle.std.proofs.Common.{◌≡◌, ℕ, ◌<◌, ◌≤◌, Bool, true, false, ◌&&◌, ◌||◌, if◌then◌else◌, List, [], ◌∷◌, ◌++◌, length, Some, None, refl, sym, ap, ap₂, ◌∙◌, append-nil, arith}
use Rattle.std.specs.Prelude.{◌==◌, Ok, Err}
use Rattle.std.specs.List.{flat_map}
use Rattle.std.proofs.lemmas.Bool.{ne_eqb}
use Rattle.hist_model.proofs.Look.{event_at-above, event_at-here, event_at-older}
use Rattle.hist_model.specs.Kinds.{is_letgo, starts}
use Rattle.hist_model.specs.Files.{files}
use Rattle.hist_model.specs.Legal.{is_open_session, tree}
use Rattle.hist_model.specs.Look.{Name, ev, event_at, is_task}
use Rattle.hist_model.specs.ReportAudit.{Judging, has_begun, installed, is_shut, session_at, session_step}
use Rattle.hist_model.specs.ReportCalls.{outcome}
use Rattle.hist_model.specs.ReportJournal.{lines_of}
use Rattle.hist_model.specs.Sessions.{any_of, or_some, session}
use Rattle.hist_model.specs.declared.event.Actor.{Actor}
use Rattle.hist_model.specs.declared.event.Actor.TheVariants.{Listener, Worker}
use Rattle.hist_model.specs.declared.event.Event.{Event}
use Rattle.hist_model.specs.declared.event.What.{What}
use Rattle.hist_model.specs.declared.event.What.TheVariants.{Close, Recv}
use Rattle.hist_model.specs.declared.script.Script.{Script}
use Rattle.sys_abi.specs.declared.wire.Notif.{Notif}
use Rattle.audit_log.proofs.Opened.{open_is_own}
use Rattle.audit_log.specs.Served.{session_by, session_for}
use Rattle.audit_log.specs.SessionStages.{stages_at, stages_step}
use Rattle.outcome_text.specs.Outcomes.{call_lines, names_with, result_of, result_with, task_names}
use Rattle.outcome_text.specs.Sight.{done_on, hidden}
use Rattle.outcome_text.proofs.Seen.{hidden_stays}
use Rattle.outcome_text.proofs.SessionDeeds.{is_own, later-step, shut-stays}

-- ---- The session of a worker that has let go is over

no_part : (a b : Bool) → (a || b) ≡ false → (a ≡ false) × (b ≡ false)
no_part a b h = grind arith

nothing_from : (s : Bool) (a : What) (own : List What) → is_shut own ≡ s → (s ≡ false → any_of is_letgo own ≡ false) → is_shut (if s then own else (a ∷ own)) ≡ false
    → any_of is_letgo (if s then own else (a ∷ own)) ≡ false
nothing_from true a own is none going = let z : true ≡ false = sym is ∙ going in cc
nothing_from false a own is none going = let parts = no_part (is_letgo a) (starts a && has_begun own) going in rw (parts.0, none refl) refl

-- an open session has not let go
open_holds : (w r : ℕ) (H : List Event) → is_shut (session_at w r H) ≡ false → any_of is_letgo (session_at w r H) ≡ false
unfolding session_at
open_holds w r [] going = refl
open_holds w r (e ∷ K) going = by (length K == r) (is_own w e) going (open_holds w r K)
  where
    by : (first own : Bool) → is_shut (session_step first own (session_at w r K) e.what) ≡ false → (is_shut (session_at w r K) ≡ false → any_of is_letgo (session_at w r K) ≡ false)
        → any_of is_letgo (session_step first own (session_at w r K) e.what) ≡ false
    by true own h ih = let parts = no_part (is_letgo e.what) _ h in rw parts.0 refl
    by false true h ih = nothing_from (is_shut (session_at w r K)) e.what (session_at w r K) refl ih h
    by false false h ih = ih h

open_own : (own : List What) → is_shut own ≡ false → any_of is_letgo own ≡ false → is_open_session own ≡ false → ⊥
open_own [] going none shut = cc
open_own (a ∷ own) going none shut = let z = rw none at shut in cc

over_by : (s : Bool) (own : List What) → is_shut own ≡ s → (s ≡ false → is_open_session own ≡ false) → (s ≡ false → any_of is_letgo own ≡ false) → is_shut own ≡ true
over_by true own is shut none = is
over_by false own is shut none = absurd (open_own own is (none refl) (shut refl))

is_over : (w r : ℕ) (n : Notif) (H : List Event) → event_at H r ≡ Some (ev (Worker w) (Recv (Ok n))) → is_open_session (session H w) ≡ false → is_shut (session_at w r H) ≡ true
is_over w r n H begins shut =
    over_by (is_shut (session_at w r H)) (session_at w r H) refl (λ going. ap is_open_session (open_is_own w r n H begins going) ∙ shut) (λ going. open_holds w r H going)

-- ---- A step that changes nothing

-- after H, the step is no task's, makes none, receives nothing, and leaves the tree as it is; a worker that takes it has let go
pub record IsIdle (H : List Event) (e : Event) : Type 0 where
  pub no_task : (n : Name) → is_task e.who n ≡ false
  pub no_name : (names : List Name) → names_with e.what names ≡ names
  pub no_session : (G : List Event) (c : ℕ) (K : List Event) → session_by G c K e.who e.what ≡ None
  pub let_go : (w : ℕ) → is_own w e ≡ true → is_open_session (session H w) ≡ false
  pub no_effect : (S : Script) → done_on S (e ∷ H) e.who e.what ≡ None
  pub same_tree : (S : Script) → tree S (e ∷ H) ≡ tree S H

inside : (H : List Event) (r : ℕ) (e : Event) → event_at H r ≡ Some e → r < length H
inside H r e is = grind (arith, event_at-above H r)

module _ (J : Judging) (places : List ℕ) (H : List Event) (e : Event) (i : IsIdle H e) where
  steps_stay : (w r : ℕ) (n : Notif) → event_at H r ≡ Some (ev (Worker w) (Recv (Ok n))) → session_at w r (e ∷ H) ≡ session_at w r H
  steps_stay w r n begins = later-step w r H e (inside H r (ev (Worker w) (Recv (Ok n))) begins) ∙ by (is_own w e) refl
    where
      by : (b : Bool) → is_own w e ≡ b → session_step false b (session_at w r H) e.what ≡ session_at w r H
      by true own = shut-stays true (session_at w r H) e.what (is_over w r n H begins (i.let_go w own))
      by false own = refl

  stages_stay : (w r : ℕ) (n : Notif) → event_at H r ≡ Some (ev (Worker w) (Recv (Ok n))) → stages_at w r (e ∷ H) ≡ stages_at w r H
  unfolding stages_at
  stages_stay w r n begins = rw later (by (is_own w e) refl)
    where
      later : (length H == r) ≡ false
      later = ne_eqb (length H) r (λ is. omega (arith, is, inside H r (ev (Worker w) (Recv (Ok n))) begins))

      by : (b : Bool) → is_own w e ≡ b → stages_step false b (length H) (session_at w r H) e.what (stages_at w r H) ≡ stages_at w r H
      by true own = rw (is_over w r n H begins (i.let_go w own)) refl
      by false own = refl

  -- ---- The session of a call

  begun_stays : (c : ℕ) (K : List Event) (who : Actor) (a : What) → event_at H (length K) ≡ Some (ev who a) → session_by (e ∷ H) c K who a ≡ session_by H c K who a
  begun_stays c K (Worker w) (Recv (Ok n)) there = rw (steps_stay w (length K) n there, stages_stay w (length K) n there) refl
  begun_stays c K _ _ there = refl

  for_stays : (c : ℕ) (K : List Event) → ((t : ℕ) → t < length K → event_at H t ≡ event_at K t) → session_for (e ∷ H) c K ≡ session_for H c K
  unfolding session_for
  for_stays c [] same = refl
  for_stays c (f ∷ K) same =
      let there : event_at H (length K) ≡ Some f = same (length K) (omega arith) ∙ event_at-here f K in
      ap₂ or_some (begun_stays c K f.who f.what there) (for_stays c K (λ t l. same t (omega arith) ∙ event_at-older f K t l))

  for_whole : (c : ℕ) → session_for (e ∷ H) c (e ∷ H) ≡ session_for H c H
  unfolding session_for
  for_whole c = ap (λ o. or_some o (session_for (e ∷ H) c H)) (i.no_session (e ∷ H) c H) ∙ for_stays c H (λ t l. refl)

  -- ---- A call

  outcome_stays : (n : Name) (c : ℕ) → c < length H → outcome n c (e ∷ H) ≡ outcome n c H
  unfolding outcome
  outcome_stays n c l = let later : (length H == c) ≡ false = ne_eqb (length H) c (λ is. omega (arith, is)) in rw (later, i.no_task n) refl

  installed_stays : (n : Name) (c : ℕ) → installed n c (e ∷ H) ≡ installed n c H
  unfolding installed
  installed_stays n c = rw (i.no_task n) refl

  line_stays : (n : Name) (K : List Event) (f : Event) → length K < length H → call_lines J places (e ∷ H) n K f ≡ call_lines J places H n K f
  line_stays n K f l = rw (outcome_stays n (length K) l, installed_stays n (length K), for_whole (length K)) refl

  lines_stay : (n : Name) (K : List Event) → length K ≤ length H → lines_of (call_lines J places (e ∷ H) n) K ≡ lines_of (call_lines J places H n) K
  unfolding lines_of
  lines_stay n [] l = refl
  lines_stay n (f ∷ K) l = ap₂ (λ xs ys. xs ++ ys) (lines_stay n K (omega arith)) (line_stays n K f (omega arith))

  no_line : (n : Name) → call_lines J places (e ∷ H) n H e ≡ []
  no_line n = rw (i.no_task n) refl

  all_stay : (n : Name) → lines_of (call_lines J places (e ∷ H) n) (e ∷ H) ≡ lines_of (call_lines J places H n) H
  unfolding lines_of
  all_stay n = ap₂ (λ xs ys. xs ++ ys) (lines_stay n H (omega arith)) (no_line n) ∙ append-nil (lines_of (call_lines J places H n) H)

  names_stay : (names : List Name) → flat_map (λ n. lines_of (call_lines J places (e ∷ H) n) (e ∷ H)) names ≡ flat_map (λ n. lines_of (call_lines J places H n) H) names
  names_stay [] = refl
  names_stay (n ∷ names) = ap₂ (λ xs ys. xs ++ ys) (all_stay n) (names_stay names)

  -- where the same effects are out of sight, the history comes to the same
  with_same : result_with J places (e ∷ H) ≡ result_with J places H
  unfolding result_with task_names
  with_same = ap (flat_map (λ n. lines_of (call_lines J places (e ∷ H) n) (e ∷ H))) (i.no_name (task_names H)) ∙ names_stay (task_names H)

-- so it comes to the same
pub comes_to_same : (S : Script) (J : Judging) (H : List Event) (e : Event) → IsIdle H e → result_of S J (e ∷ H) ≡ result_of S J H
comes_to_same S J H e i = with_same J (hidden S (e ∷ H)) H e i ∙ ap (λ places. result_with J places H) (hidden_stays S H e (i.no_effect S) (i.same_tree S))

-- ---- Which steps they are

-- the close of the listener
pub close_idle : (H : List Event) → IsIdle H (ev Listener Close)
unfolding files
close_idle H = record {
  no_task = λ n. refl;
  no_name = λ names. refl;
  no_session = λ G c K. refl;
  let_go = λ w own. absurd (cc own);
  no_effect = λ S. refl;
  same_tree = λ S. refl;
}

-- which changes nothing of what is out of sight
pub close_hides_none : (S : Script) (H : List Event) → hidden S (ev Listener Close ∷ H) ≡ hidden S H
close_hides_none S H = let i = close_idle H in hidden_stays S H (ev Listener Close) (i.no_effect S) (i.same_tree S)

-- a receive that finds nothing, where each worker has let go
pub empty_idle : (H : List Event) (w x : ℕ) → ((v : ℕ) → is_open_session (session H v) ≡ false) → IsIdle H (ev (Worker w) (Recv (Err x)))
unfolding files
empty_idle H w x shut = record {
  no_task = λ n. refl;
  no_name = λ names. refl;
  no_session = λ G c K. refl;
  let_go = λ v own. shut v;
  no_effect = λ S. refl;
  same_tree = λ S. refl;
}

-- behind which each worker has let go still
pub still_let_go : (H : List Event) (w x : ℕ) → ((v : ℕ) → is_open_session (session H v) ≡ false) → (v : ℕ) → is_open_session (session (ev (Worker w) (Recv (Err x)) ∷ H) v) ≡ false
unfolding session
still_let_go H w x shut v = by (w == v) (session H v) (shut v)
  where
    by : (b : Bool) (own : List What) → is_open_session own ≡ false → is_open_session (if b && true then Rattle.hist_model.specs.Sessions.joined (Recv (Err x)) own else own) ≡ false
    by b own s = grind arith
