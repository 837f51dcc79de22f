-- No legal history breaks these clauses.
-- By what each step of a worker tells of its session.
use Rattle.mediation.proofs.Common.{Act, Actor, AddfdPut, ap, Bool, Event, false, first_some, id, inl, inr, Injects, IsLegal, length, List, Listener, None, Notif, Option}
use Rattle.mediation.proofs.Common.{Ok, outcome_in, Plant, Policy, put_in, refl, Result, Rules, rules_of, Script, Send, session, session_call, Some, Start, System, system_of, Task, true, What, Worker}
use Rattle.mediation.proofs.Common.{ℕ, ◌<◌, ◌^◌, ◌||◌, ◌≡◌, cases_Bool, eq-eqb, any_of, gives_up, reads_of, is_acting}
use Rattle.hist_model.specs.Legal.{Legal}
use Rattle.hist_model.specs.Sessions.{Decision}
use Rattle.mediation.proofs.Hands.{hand, in-hand}
use Rattle.mediation.proofs.Order.{is-own, put-fixed}
use Rattle.mediation.proofs.Rows.{AtWork, each, Row, WorkerRow}
use Rattle.broker_verdict.proofs.LegalAnswers.{act-fixed, denies_so, has_cause, passes_so, reports_done, sends, some-done}
use Rattle.broker_verdict.proofs.LegalSeats.{effect, effect_in, EffectIs, sent}
use Rattle.broker_verdict.specs.Seats.{effect_of, has_sent}
use Rattle.broker_verdict.specs.Trusted.{breaks, breaks_by, Keeps, leaves_unanswered, seat_breaks}
use Rattle.broker_verdict.specs.declared.clause.Clause.{Clause}
use Rattle.broker_verdict.specs.declared.clause.Clause.TheVariants.{AfterAnswer, Again, AnswerWithoutCall, DeniedOtherwise, EffectWithoutCall, GrantedNotDone, OtherAnswer, PassedOtherwise, Uncaused}

pub none-some : (f : Option ℕ → Bool) → f None ≡ false → ((c : ℕ) → f (Some c) ≡ false) → (o : Option ℕ) → f o ≡ false
none-some f n s None = n
none-some f n s (Some c) = s c

or-none : (a b : Bool) → a ≡ false → b ≡ false → (a || b) ≡ false
or-none a b p q = rw (p, q) refl

-- where no effect in the tree or the memory was done, and no descriptor was asked for
none-of-both : (own : List What) → first_some outcome_in own ≡ None → first_some put_in own ≡ None → first_some effect_in own ≡ None
none-of-both own o p = go (first_some effect_in own) refl
  where
    go : (e : Option What) → first_some effect_in own ≡ e → first_some effect_in own ≡ None
    go None h = h
    go (Some a) h = absurd (elim (some-done own a h) [ inl y ↦ cc (y.1, o) | inr y ↦ cc (y.1, p) ])

no-place : (own : List What) (K : List Event) (w : ℕ) (o : Option ℕ) → session K w ≡ own → first_some effect_in own ≡ None → EffectIs K w o → o ≡ None
no-place own K w None q h i = refl
no-place own K w (Some p) q h i = absurd (cc (i.2, q, h))

module _ (P : Policy) (S : Script) where
  abbrev pub R : Rules
  R = rules_of P S.figures

  abbrev pub T : System
  T = system_of S

  -- what a seat's step keeps
  abbrev pub SeatKeeps : Clause → Type 0
  SeatKeeps clause = (K : List Event) (w : ℕ) (what : What) → IsLegal T R K → length K < 2 ^ 64 → WorkerRow T R K w what → seat_breaks P S clause K w what (session_call K w) ≡ false

  by-actor : (clause : Clause) → SeatKeeps clause → (K : List Event) (a : Actor) (what : What) → IsLegal T R K → length K < 2 ^ 64 → Row T R K a what → breaks_by P S clause K a what ≡ false
  by-actor clause seat K Start what legal room row = refl
  by-actor clause seat K (Task n) what legal room row = refl
  by-actor clause seat K (Worker w) what legal room row = seat K w what legal room row
  by-actor clause seat K Listener what legal room row = refl

  pub keeps : (clause : Clause) → ((K : List Event) (e : Event) → leaves_unanswered clause K e ≡ false) → SeatKeeps clause → (K : List Event) → Legal P S K → Keeps P S clause K
  keeps clause quiet seat K legal = each T R (λ H e. breaks P S clause H e ≡ false)
      (λ H e l room row. or-none (breaks_by P S clause H e.who e.what) (leaves_unanswered clause H e) (by-actor clause seat H e.who e.what l room row) (quiet H e)) K legal.0 legal.1

  -- a seat at work has a call in hand
  with-call : (K : List Event) (w : ℕ) (n : Notif) (f : Option ℕ → Bool) → IsLegal T R K → length K < 2 ^ 64 → AtWork (session K w) n → ((c : ℕ) → session_call K w ≡ Some c → f (Some c) ≡ false)
      → f (session_call K w) ≡ false
  with-call K w n f legal room work g = let j = in-hand K w (session_call K w) n work (hand T R K legal room w) in rw j.1 (g j.0 j.1)

  -- ---- there is a call

  effect-has-call : SeatKeeps EffectWithoutCall
  effect-has-call K w (Act q cap a) legal room row = with-call K w row.0.0 (seat_breaks P S EffectWithoutCall K w (Act q cap a)) legal room row.0.1 (λ c h. refl)
  effect-has-call K w (Plant x b cap a) legal room row = with-call K w row.0.0 (seat_breaks P S EffectWithoutCall K w (Plant x b cap a)) legal room row.0.1 (λ c h. refl)
  effect-has-call K w (AddfdPut q a) legal room row = with-call K w row.0.0 (seat_breaks P S EffectWithoutCall K w (AddfdPut q a)) legal room row.0.1 (λ c h. refl)
  effect-has-call K w what legal room row = none-some (seat_breaks P S EffectWithoutCall K w what) refl (λ c. refl) (session_call K w)

  answer-has-call : SeatKeeps AnswerWithoutCall
  answer-has-call K w (Send x b a) legal room row = with-call K w row.0.0 (seat_breaks P S AnswerWithoutCall K w (Send x b a)) legal room row.0.1 (λ c h. refl)
  answer-has-call K w what legal room row = none-some (seat_breaks P S AnswerWithoutCall K w what) refl (λ c. refl) (session_call K w)

  -- ---- an answer

  own-answer : SeatKeeps OtherAnswer
  own-answer K w (Send x b a) legal room row = let s = sends P S K w x b a legal room row in rw (s.in_hand, eq-eqb (id K s.call) x s.own_id) refl
  own-answer K w what legal room row = none-some (seat_breaks P S OtherAnswer K w what) refl (λ c. refl) (session_call K w)

  caused : SeatKeeps Uncaused
  caused K w (Send x b (Ok u)) legal room row = let s = sends P S K w x b (Ok u) legal room row in rw s.in_hand (has_cause P S K w x b s)
  caused K w what legal room row = none-some (seat_breaks P S Uncaused K w what) refl (λ c. refl) (session_call K w)

  denied : SeatKeeps DeniedOtherwise
  denied K w (Send x b (Ok u)) legal room row = let s = sends P S K w x b (Ok u) legal room row in rw s.in_hand (denies_so P S K w x b s)
  denied K w what legal room row = none-some (seat_breaks P S DeniedOtherwise K w what) refl (λ c. refl) (session_call K w)

  passed : SeatKeeps PassedOtherwise
  passed K w (Send x b (Ok u)) legal room row = let s = sends P S K w x b (Ok u) legal room row in rw s.in_hand (passes_so P S K w x b s)
  passed K w what legal room row = none-some (seat_breaks P S PassedOtherwise K w what) refl (λ c. refl) (session_call K w)

  done : SeatKeeps GrantedNotDone
  done K w (Send x b (Ok u)) legal room row = let s = sends P S K w x b (Ok u) legal room row in rw s.in_hand (reports_done P S K w x b s)
  done K w what legal room row = none-some (seat_breaks P S GrantedNotDone K w what) refl (λ c. refl) (session_call K w)

  -- ---- an effect is the first, and stands before the answer

  no-effect-yet : (K : List Event) (w c : ℕ) → IsLegal T R K → length K < 2 ^ 64 → session_call K w ≡ Some c → first_some outcome_in (session K w) ≡ None → first_some put_in (session K w) ≡ None
      → effect_of K w ≡ None
  no-effect-yet K w c legal room h o p = no-place (session K w) K w (effect_of K w) refl (none-of-both (session K w) o p) (effect T R K legal room w c h)

  -- a session whose rule grants asks for no descriptor, and one whose rule injects does nothing else
  grants-no-put : (own : List What) (n : Notif) (u : Option (Result (Unit {0}) ℕ)) → ((x : Result (Unit {0}) ℕ) → first_some put_in own ≡ Some x → is_acting (R.decide n (reads_of own)) ≡ true → ⊥)
      → is_acting (R.decide n (reads_of own)) ≡ true → first_some put_in own ≡ u → first_some put_in own ≡ None
  grants-no-put own n None never g h = h
  grants-no-put own n (Some x) never g h = absurd (never x h g)

  injection-acts : (d : Decision) → (src : ℕ) × (at : Option ℕ) × (flags : ℕ) × (d ≡ Injects src at flags) → is_acting d ≡ true → ⊥
  injection-acts d i g = cc (rw i.3 at g)

  act-none-put : (K : List Event) (w : ℕ) (n : Notif) → IsLegal T R K → AtWork (session K w) n → is_acting (R.decide n (reads_of (session K w))) ≡ true → first_some put_in (session K w) ≡ None
  act-none-put K w n legal work g = grants-no-put (session K w) n (first_some put_in (session K w))
      (λ x h z. injection-acts (R.decide n (reads_of (session K w))) (put-fixed R (session K w) (is-own T R K legal w) n x work.notif_is h).decided z) g refl

  put-none-act : (K : List Event) (w : ℕ) (n : Notif) (src : ℕ) (at : Option ℕ) (flags : ℕ) (u : Option (Result (Unit {0}) ℕ)) → IsLegal T R K → AtWork (session K w) n
      → R.decide n (reads_of (session K w)) ≡ Injects src at flags → first_some outcome_in (session K w) ≡ u → first_some outcome_in (session K w) ≡ None
  put-none-act K w n src at flags None legal work d h = h
  put-none-act K w n src at flags (Some x) legal work d h =
      absurd (injection-acts (R.decide n (reads_of (session K w))) (src, at, flags, d) (act-fixed R (session K w) (is-own T R K legal w) n x work.notif_is h).decided)

  once : SeatKeeps Again
  once K w (Act q cap a) legal room row = with-call K w row.0.0 (seat_breaks P S Again K w (Act q cap a)) legal room row.0.1
      (λ c h. rw (no-effect-yet K w c legal room h row.0.5 (act-none-put K w row.0.0 legal row.0.1 (ap is_acting row.0.4))) refl)
  once K w (Plant x b cap a) legal room row = with-call K w row.0.0 (seat_breaks P S Again K w (Plant x b cap a)) legal room row.0.1
      (λ c h. rw (no-effect-yet K w c legal room h row.0.5 (act-none-put K w row.0.0 legal row.0.1 (ap is_acting row.0.4))) refl)
  once K w (AddfdPut q a) legal room row = with-call K w row.0.0 (seat_breaks P S Again K w (AddfdPut q a)) legal room row.0.1
      (λ c h. rw (no-effect-yet K w c legal room h (put-none-act K w row.0.0 row.0.4.src row.0.4.place row.0.4.flags (first_some outcome_in (session K w)) legal row.0.1 row.0.4.decided refl) row.0.5) refl)
  once K w what legal room row = none-some (seat_breaks P S Again K w what) refl (λ c. refl) (session_call K w)

  pub unsent-yet : (K : List Event) (w c : ℕ) → IsLegal T R K → length K < 2 ^ 64 → session_call K w ≡ Some c → any_of gives_up (session K w) ≡ false → has_sent K w ≡ false
  unsent-yet K w c legal room h g = elim (cases_Bool (has_sent K w)) [ inl t ↦ absurd (cc (sent T R K legal room w c h t, g)) | inr f ↦ f ]

  before-answer : SeatKeeps AfterAnswer
  before-answer K w (Act q cap a) legal room row = with-call K w row.0.0 (seat_breaks P S AfterAnswer K w (Act q cap a)) legal room row.0.1 (λ c h. rw (unsent-yet K w c legal room h row.0.1.no_end) refl)
  before-answer K w (Plant x b cap a) legal room row = with-call K w row.0.0 (seat_breaks P S AfterAnswer K w (Plant x b cap a)) legal room row.0.1 (λ c h. rw (unsent-yet K w c legal room h row.0.1.no_end) refl)
  before-answer K w (AddfdPut q a) legal room row = with-call K w row.0.0 (seat_breaks P S AfterAnswer K w (AddfdPut q a)) legal room row.0.1 (λ c h. rw (unsent-yet K w c legal room h row.0.1.no_end) refl)
  before-answer K w what legal room row = none-some (seat_breaks P S AfterAnswer K w what) refl (λ c. refl) (session_call K w)

-- ---- all of these

pub effect_has_call : (P : Policy) (S : Script) (K : List Event) → Legal P S K → Keeps P S EffectWithoutCall K
effect_has_call P S = keeps P S EffectWithoutCall (λ K e. refl) (effect-has-call P S)

pub once_only : (P : Policy) (S : Script) (K : List Event) → Legal P S K → Keeps P S Again K
once_only P S = keeps P S Again (λ K e. refl) (once P S)

pub before_answer : (P : Policy) (S : Script) (K : List Event) → Legal P S K → Keeps P S AfterAnswer K
before_answer P S = keeps P S AfterAnswer (λ K e. refl) (before-answer P S)

pub answer_has_call : (P : Policy) (S : Script) (K : List Event) → Legal P S K → Keeps P S AnswerWithoutCall K
answer_has_call P S = keeps P S AnswerWithoutCall (λ K e. refl) (answer-has-call P S)

pub own_answer : (P : Policy) (S : Script) (K : List Event) → Legal P S K → Keeps P S OtherAnswer K
own_answer P S = keeps P S OtherAnswer (λ K e. refl) (own-answer P S)

pub caused_so : (P : Policy) (S : Script) (K : List Event) → Legal P S K → Keeps P S Uncaused K
caused_so P S = keeps P S Uncaused (λ K e. refl) (caused P S)

pub denied_so : (P : Policy) (S : Script) (K : List Event) → Legal P S K → Keeps P S DeniedOtherwise K
denied_so P S = keeps P S DeniedOtherwise (λ K e. refl) (denied P S)

pub passed_so : (P : Policy) (S : Script) (K : List Event) → Legal P S K → Keeps P S PassedOtherwise K
passed_so P S = keeps P S PassedOtherwise (λ K e. refl) (passed P S)

pub done_so : (P : Policy) (S : Script) (K : List Event) → Legal P S K → Keeps P S GrantedNotDone K
done_so P S = keeps P S GrantedNotDone (λ K e. refl) (done P S)
