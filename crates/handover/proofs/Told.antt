-- A worker's session in a legal history is the one that its answers tell, and one more step is one more answer of its ledger.
-- By induction over the history, with the cases of a session's next step: a receive, one without a session, a later one.
use Rattle.std.proofs.Common.{◌≡◌, ℕ, Bool, true, false, not, List, [], ◌∷◌, ◌++◌, refl, sym, ap, subst, ◌∙◌, Option, Some, None, Ok, inl, inr}
use Rattle.std.specs.Prelude.{if◌then◌else◌, ◌||◌}
use Rattle.std.proofs.lemmas.Bool.{and_parts, cases_Bool, eqb-true, or_parts}
use Rattle.hist_model.specs.Deeds.{Deed}
use Rattle.hist_model.specs.Kinds.{is_letgo, skips, starts}
use Rattle.hist_model.specs.Legal.{rules_of, system_of}
use Rattle.hist_model.specs.Look.{is_worker}
use Rattle.hist_model.specs.Sessions.{Rules, any_of, deed, fetched_by, joined, notif_of, or_notif, session}
use Rattle.hist_model.specs.Steps.{IsLegal, IsStep, deed_step, start, step, worker_step}
use Rattle.hist_model.specs.declared.event.Actor.{Actor}
use Rattle.hist_model.specs.declared.event.Actor.TheVariants.{Listener, Start, Task, Worker}
use Rattle.hist_model.specs.declared.event.Event.{Event}
use Rattle.hist_model.specs.declared.event.What.{What}
use Rattle.hist_model.specs.declared.event.What.TheVariants.{Recv}
use Rattle.hist_model.specs.declared.policy.Policy.{Policy}
use Rattle.hist_model.specs.declared.script.Script.{Script}
use Rattle.hist_model.proofs.Fitting.{deed_sized}
use Rattle.sys_abi.specs.declared.wire.Notif.{Notif}
use Rattle.broker_core.specs.Answers.{Answer, answer_of, is_let_go, shown, step_of, with_step}
use Rattle.broker_machine.proofs.Fitting.{Answers, answers}
use Rattle.worker_ledger.specs.Ledgers.{answers_in, own_answers}
use Rattle.worker_ledger.specs.Notes.{is_received, noted, told_more}
use Rattle.worker_ledger.specs.Successors.{AllStand, after_answer, after_answers, may_stand}
use Rattle.handover.specs.Ledgers.{is_step_of}
use Rattle.handover.proofs.Fitting.{IsFetched, IsLater, fit_stands, has_answer, later_deed, tells}

-- ---- One more answer

after-more : (R : Rules) (own : List What) (told : List Answer) (a : Answer) → after_answers R own (told ++ (a ∷ [])) ≡ after_answer R (after_answers R own told) a
after-more R own [] a = refl
after-more R own (b ∷ told) a = after-more R (after_answer R own b) told a

stand-more : (R : Rules) (own : List What) (told : List Answer) (a : Answer) → AllStand R own told → may_stand (shown (deed R (after_answers R own told))) a ≡ true → AllStand R own (told ++ (a ∷ []))
stand-more R own [] a s h = (h, tt)
stand-more R own (b ∷ told) a s h = (s.0, stand-more R (after_answer R own b) told a s.1 h)

told-more : (told : List Answer) (b a : Answer) → told_more a (told ++ (b ∷ [])) ≡ (told ++ (b ∷ [])) ++ (a ∷ [])
told-more [] b a = refl
told-more (c ∷ told) b a = refl

told-none : (l : Bool) (a : Answer) → (if l then [] else told_more a []) ≡ []
told-none true a = refl
told-none false a = refl

-- what the ledger of an open session tells, and that of one that has ended
pub told_open : (own : List What) → any_of is_letgo own ≡ false → own_answers own ≡ answers_in own
told_open own h = ap (λ (b : Bool). if b then [] else answers_in own) h

pub told_ended : (own : List What) → any_of is_letgo own ≡ true → own_answers own ≡ []
told_ended own h = ap (λ (b : Bool). if b then [] else answers_in own) h

-- ---- One more step

pub joined_start : (what : What) (own : List What) → starts what ≡ true → joined what own ≡ what ∷ []
joined_start what [] h = rw h refl
joined_start what (b ∷ own) h = rw h refl

no-session : (what : What) → starts what ≡ false → joined what [] ≡ []
no-session what h = rw h refl

joined-later : (what b : What) (own : List What) → starts what ≡ false → joined what (b ∷ own) ≡ what ∷ b ∷ own
joined-later what b own h = rw h refl

-- a session begins with a notification
abbrev pub IsBegun : List What → Type 0
IsBegun [] = Unit {0}
IsBegun (b ∷ own) = IsFetched (notif_of (b ∷ own))

-- the session is the one that its answers tell, and these may stand in a ledger
pub record IsTold (R : Rules) (own : List What) : Type 0 where
  pub stand : any_of is_letgo own ≡ false → AllStand R [] (answers_in own)
  pub back : any_of is_letgo own ≡ false → after_answers R [] (answers_in own) ≡ own
  pub begun : IsBegun own

told-nothing : (R : Rules) → IsTold R []
told-nothing R = record { stand = λ h. tt; back = λ h. refl; begun = tt }

told-start : (R : Rules) (what : What) → starts what ≡ true → IsTold R (what ∷ [])
unfolding deed
told-start R (Recv (Ok n)) h = record { stand = λ g. (refl, tt); back = λ g. refl; begun = tt }
told-start R what h = absurd cc

still-fetched : (o p : Option Notif) → IsFetched p → IsFetched (or_notif o p)
still-fetched (Some n) p f = tt
still-fetched None p f = f

start-told : (what : What) → starts what ≡ true → (answer_of what ∷ []) ≡ own_answers (what ∷ [])
start-told (Recv (Ok n)) h = refl
start-told what h = absurd cc

module _ (R : Rules) (d : Deed) (what : What) (is : Answers d what) (some : skips what ≡ false) where
  pub comes : skips (step_of d (answer_of what)) ≡ false
  comes = ap skips is.step ∙ some

  pub lets_go : is_let_go (shown d) ≡ is_letgo what
  lets_go = (tells d (answer_of what) is.fits).1 ∙ ap is_letgo is.step

  received : is_received (answer_of what) ≡ starts what
  received = (tells d (answer_of what) is.fits).0 ∙ ap starts is.step

  module _ (b : What) (own : List What) (e : d ≡ deed R (b ∷ own)) (s : starts what ≡ false) (t : IsTold R (b ∷ own)) where
    stands : is_letgo what ≡ false → any_of is_letgo (b ∷ own) ≡ false → may_stand (shown (deed R (after_answers R [] (answers_in (b ∷ own))))) (answer_of what) ≡ true
    stands g h =
        ap (λ (o : List What). may_stand (shown (deed R o)) (answer_of what)) (t.back h)
        ∙ (ap (λ (x : Deed). may_stand (shown x) (answer_of what)) (sym e)
        ∙ fit_stands d (answer_of what) (subst (λ (x : Deed). IsLater x) (sym e) (later_deed R (b ∷ own) t.begun h)) (lets_go ∙ g) (has_answer d (answer_of what) comes) is.fits)

    with-one : after_answer R (b ∷ own) (answer_of what) ≡ what ∷ b ∷ own
    with-one =
        ap (λ (x : Deed). with_step (step_of x (answer_of what)) (b ∷ own)) (sym e)
        ∙ (ap (λ (x : What). with_step x (b ∷ own)) is.step ∙ rw (some, s) refl)

    told-later : IsTold R (what ∷ b ∷ own)
    told-later = record {
      stand = λ h. let p = or_parts (is_letgo what) (any_of is_letgo (b ∷ own)) h in
          stand-more R [] (answers_in (b ∷ own)) (answer_of what) (t.stand p.1) (stands p.0 p.1);
      back = λ h. let p = or_parts (is_letgo what) (any_of is_letgo (b ∷ own)) h in
          after-more R [] (answers_in (b ∷ own)) (answer_of what) ∙ (ap (λ (o : List What). after_answer R o (answer_of what)) (t.back p.1) ∙ with-one);
      begun = still-fetched (fetched_by what) (notif_of (b ∷ own)) t.begun;
    }

  told-joined : (own : List What) → d ≡ deed R own → starts what ≡ false → IsTold R own → IsTold R (joined what own)
  told-joined [] e s t = subst (λ (o : List What). IsTold R o) (sym (no-session what s)) (told-nothing R)
  told-joined (b ∷ own) e s t = subst (λ (o : List What). IsTold R o) (sym (joined-later what b own s)) (told-later b own e s t)

  pub told_one : (own : List What) → d ≡ deed R own → IsTold R own → IsTold R (joined what own)
  told_one own e t = elim (cases_Bool (starts what)) [
    | inl s ↦ subst (λ (o : List What). IsTold R o) (sym (joined_start what own s)) (told-start R what s)
    | inr s ↦ told-joined own e s t
  ]

  ledger-later : (x l : Bool) (b : What) (own : List What) → (if x then [] else told_more (answer_of what) (if l then [] else answers_in (b ∷ own))) ≡ (if x || l then [] else answers_in (b ∷ own) ++ (answer_of what ∷ []))
  ledger-later true l b own = refl
  ledger-later false true b own = refl
  ledger-later false false b own = told-more (answers_in own) (answer_of b) (answer_of what)

  ledger-joined : (own : List What) → starts what ≡ false → (if is_letgo what then [] else told_more (answer_of what) (own_answers own)) ≡ own_answers (joined what own)
  ledger-joined [] s = told-none (is_letgo what) (answer_of what) ∙ ap own_answers (sym (no-session what s))
  ledger-joined (b ∷ own) s = ledger-later (is_letgo what) (any_of is_letgo (b ∷ own)) b own ∙ ap own_answers (sym (joined-later what b own s))

  -- the ledger after one answer, as it tells notifications and letting go apart
  abbrev ledger-of : Bool → Bool → List What → List Answer
  ledger-of begins ends own = if begins then answer_of what ∷ [] else (if ends then [] else told_more (answer_of what) (own_answers own))

  ledger-one : (own : List What) → ledger-of (starts what) (is_letgo what) own ≡ own_answers (joined what own)
  ledger-one own = elim (cases_Bool (starts what)) [
    | inl s ↦ ap (λ (b : Bool). ledger-of b (is_letgo what) own) s ∙ (start-told what s ∙ ap own_answers (sym (joined_start what own s)))
    | inr s ↦ ap (λ (b : Bool). ledger-of b (is_letgo what) own) s ∙ ledger-joined own s
  ]

  -- what the ledger says after the step
  pub noted_one : (own : List What) → noted (is_let_go (shown d)) (answer_of what) (own_answers own) ≡ own_answers (joined what own)
  noted_one own = ap (λ (b : Bool). ledger-of b (is_let_go (shown d)) own) received ∙ (ap (λ (b : Bool). ledger-of (starts what) b own) lets_go ∙ ledger-one own)

-- ---- The sessions of a legal history

not-true : (b : Bool) → not b ≡ true → b ≡ false
not-true true h = absurd cc
not-true false h = refl

no-way : false ≡ true → ⊥
no-way h = cc

no-steps : (w : ℕ) → session [] w ≡ []
unfolding session
no-steps w = refl

module _ (e : Event) (w : ℕ) (h : is_step_of w e ≡ true) where
  pub step_worker : is_worker e.who w ≡ true
  step_worker = (and_parts (is_worker e.who w) (not (skips e.what)) h).0

  pub step_some : skips e.what ≡ false
  step_some = not-true (skips e.what) (and_parts (is_worker e.who w) (not (skips e.what)) h).1

module _ (e : Event) (K : List Event) (w : ℕ) where
  pub session_step : is_step_of w e ≡ true → session (e ∷ K) w ≡ joined e.what (session K w)
  unfolding session
  session_step h = ap (λ (b : Bool). if b then joined e.what (session K w) else session K w) h

  pub session_other : is_step_of w e ≡ false → session (e ∷ K) w ≡ session K w
  unfolding session
  session_other h = ap (λ (b : Bool). if b then joined e.what (session K w) else session K w) h

module _ (P : Policy) (S : Script) where
  -- the deed that is due for a worker
  abbrev pub due : List Event → ℕ → Deed
  due K w = deed (rules_of P S.figures) (session K w)

  step-of-worker : (K : List Event) (w : ℕ) (a : Actor) → is_worker a w ≡ true → step (system_of S) (rules_of P S.figures) K a ≡ deed_step (system_of S) K w (due K w)
  unfolding step worker_step
  step-of-worker K w (Worker v) h = ap (λ (u : ℕ). deed_step (system_of S) K u (due K u)) (eqb-true v w h)
  step-of-worker K w Start h = absurd (no-way h)
  step-of-worker K w (Task n) h = absurd (no-way h)
  step-of-worker K w Listener h = absurd (no-way h)

  -- a worker's event is its step
  step-is : (e : Event) (K : List Event) (w : ℕ) → IsStep (system_of S) (rules_of P S.figures) K e → is_worker e.who w ≡ true → e.what ≡ deed_step (system_of S) K w (due K w)
  step-is e [] w s h =
      let is : e ≡ start (system_of S) = s in
      absurd (no-way (ap (λ (x : Event). is_worker x.who w) (sym is) ∙ h))
  step-is e (f ∷ K) w s h = s.2 ∙ step-of-worker (f ∷ K) w e.who h

  pub answered_step : (e : Event) (K : List Event) (w : ℕ) → IsStep (system_of S) (rules_of P S.figures) K e → is_worker e.who w ≡ true → Answers (due K w) e.what
  answered_step e K w s h = subst (λ (x : What). Answers (due K w) x) (sym (step-is e K w s h)) (answers S K w (due K w) (deed_sized P S.figures (session K w)))

  pub told_session : (K : List Event) (w : ℕ) → IsLegal (system_of S) (rules_of P S.figures) K → IsTold (rules_of P S.figures) (session K w)
  told_session [] w l = subst (λ (o : List What). IsTold (rules_of P S.figures) o) (sym (no-steps w)) (told-nothing (rules_of P S.figures))
  told_session (e ∷ K) w l = elim (cases_Bool (is_step_of w e)) [
    | inl h ↦
        subst (λ (o : List What). IsTold (rules_of P S.figures) o) (sym (session_step e K w h))
        (told_one (rules_of P S.figures) (due K w) e.what (answered_step e K w l.0 (step_worker e w h)) (step_some e w h) (session K w) refl (told_session K w l.1))
    | inr h ↦ subst (λ (o : List What). IsTold (rules_of P S.figures) o) (sym (session_other e K w h)) (told_session K w l.1)
  ]
