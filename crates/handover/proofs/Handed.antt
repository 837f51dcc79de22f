-- A worker's ledger in a legal history is one, and its successor goes on as the worker.
-- By what the answers of its session tell, and by induction over the history to its last step.
use Rattle.std.proofs.Common.{◌≡◌, ℕ, suc, ◌+◌, ◌<◌, ◌≤◌, ◌^◌, Bool, true, false, List, [], ◌∷◌, length, refl, sym, ap, subst, ◌∙◌, Option, Some, None, Result, Ok, Err, inl, inr, arith}
use Rattle.std.specs.Prelude.{if◌then◌else◌, ◌==◌}
use Rattle.std.proofs.lemmas.Bool.{cases_Bool, eq-eqb, ne_eqb, or_right}
use Rattle.hist_model.specs.Deeds.{Deed}
use Rattle.hist_model.specs.Kinds.{is_letgo, starts}
use Rattle.hist_model.specs.Legal.{Legal, rules_of, system_of}
use Rattle.hist_model.specs.Sessions.{Rules, any_of, deed, deed_for, joined, notif_of, session}
use Rattle.hist_model.specs.Steps.{IsLegal}
use Rattle.hist_model.specs.declared.event.Event.{Event}
use Rattle.hist_model.specs.declared.event.What.{What}
use Rattle.hist_model.specs.declared.policy.Policy.{Policy}
use Rattle.hist_model.specs.declared.script.Script.{Script}
use Rattle.sys_abi.specs.declared.wire.Notif.{Notif}
use Rattle.broker_core.specs.Answers.{Answer, answer_of, is_let_go, shown, step_of, with_step}
use Rattle.broker_core.specs.Remembered.{Idle}
use Rattle.broker_machine.proofs.Fitting.{Answers}
use Rattle.worker_ledger.specs.Ledgers.{AreAnswers, own_answers}
use Rattle.worker_ledger.specs.Notes.{noted}
use Rattle.worker_ledger.specs.Successors.{AllStand, IsLedger, Resumed, after_answer, after_answers, caught, is_answer_to, resumed, with_last}
use Rattle.worker_ledger.specs.declared.successor.LedgerError.{LedgerError}
use Rattle.worker_ledger.specs.declared.successor.LedgerError.TheVariants.{Stale, Unfit}
use Rattle.handover.specs.Ledgers.{AreAlike, GoesOnAs, HandsOver, before_last, is_step_of, last_answer, ledger_of, taken, told_in}
use Rattle.handover.proofs.Fitting.{fit_answer, has_answer}
use Rattle.handover.proofs.Told.{IsTold, answered_step, comes, due, joined_start, noted_one, session_other, session_step, step_some, step_worker, told_ended, told_open, told_session}

-- ---- Steps that are alike

idle-stays : (what : What) (own : List What) → starts what ≡ false → Idle own → Idle (joined what own)
idle-stays what [] s h = rw s (inl refl)
idle-stays what (a ∷ own) s (inl h) = absurd cc
idle-stays what (a ∷ own) s (inr h) = rw s (inr (or_right (is_letgo what) (any_of is_letgo (a ∷ own)) h))

-- one more step leaves them alike
alike-joined : (what : What) (own steps : List What) → AreAlike own steps → AreAlike (joined what own) (joined what steps)
alike-joined what own steps (inl e) = inl (ap (joined what) e)
alike-joined what own steps (inr h) = elim (cases_Bool (starts what)) [
  | inl s ↦ inl (joined_start what steps s ∙ sym (joined_start what own s))
  | inr s ↦ inr (idle-stays what own s h.0, idle-stays what steps s h.1)
]

idle-deed : (R : Rules) (own : List What) → Idle own → deed R own ≡ Deed.Recv
unfolding deed
idle-deed R [] h = refl
idle-deed R (a ∷ own) (inl h) = absurd cc
idle-deed R (a ∷ own) (inr h) = by-notif (notif_of (a ∷ own))
  where
    by-notif : (o : Option Notif) → deed_for R o (a ∷ own) ≡ Deed.Recv
    by-notif None = refl
    by-notif (Some n) = rw h refl

-- the same deed is due
alike-deed : (R : Rules) (own steps : List What) → AreAlike own steps → deed R steps ≡ deed R own
alike-deed R own steps (inl e) = ap (deed R) e
alike-deed R own steps (inr h) = idle-deed R steps h.1 ∙ sym (idle-deed R own h.0)

-- what a ledger tells is the session
told-alike : (R : Rules) (own : List What) → IsTold R own → AreAlike own (after_answers R [] (own_answers own))
told-alike R own t = elim (cases_Bool (any_of is_letgo own)) [
  | inl h ↦ inr (inr h, subst (λ (o : List What). Idle o) (sym (ap (after_answers R []) (told_ended own h))) (inl refl))
  | inr h ↦ inl (ap (after_answers R []) (told_open own h) ∙ t.back h)
]

told-stands : (R : Rules) (own : List What) → IsTold R own → AllStand R [] (own_answers own)
told-stands R own t = elim (cases_Bool (any_of is_letgo own)) [
  | inl h ↦ subst (λ (l : List Answer). AllStand R [] l) (sym (told_ended own h)) tt
  | inr h ↦ subst (λ (l : List Answer). AllStand R [] l) (sym (told_open own h)) (t.stand h)
]

-- ---- How many steps a worker took

one-more : (b : Bool) (n m : ℕ) → n ≤ m → (if b then n + 1 else n) ≤ suc m
one-more true n m h = omega arith
one-more false n m h = omega arith

pub taken_within : (K : List Event) (w : ℕ) → taken K w ≤ length K
unfolding taken
taken_within [] w = omega arith
taken_within (e ∷ K) w = one-more (is_step_of w e) (taken K w) (length K) (taken_within K w)

module _ (e : Event) (K : List Event) (w : ℕ) where
  pub taken_step : is_step_of w e ≡ true → taken (e ∷ K) w ≡ taken K w + 1
  unfolding taken
  taken_step h = ap (λ (b : Bool). if b then taken K w + 1 else taken K w) h

  pub taken_other : is_step_of w e ≡ false → taken (e ∷ K) w ≡ taken K w
  unfolding taken
  taken_other h = ap (λ (b : Bool). if b then taken K w + 1 else taken K w) h

  pub last_step : is_step_of w e ≡ true → last_answer (e ∷ K) w ≡ Some (answer_of e.what)
  unfolding last_answer
  last_step h = ap (λ (b : Bool). if b then Some (answer_of e.what) else last_answer K w) h

  last-other : is_step_of w e ≡ false → last_answer (e ∷ K) w ≡ last_answer K w
  unfolding last_answer
  last-other h = ap (λ (b : Bool). if b then Some (answer_of e.what) else last_answer K w) h

  pub before_step : is_step_of w e ≡ true → before_last (e ∷ K) w ≡ Some K
  unfolding before_last
  before_step h = ap (λ (b : Bool). if b then Some K else before_last K w) h

  before-other : is_step_of w e ≡ false → before_last (e ∷ K) w ≡ before_last K w
  unfolding before_last
  before-other h = ap (λ (b : Bool). if b then Some K else before_last K w) h

-- ---- What comes of a ledger

module _ (R : Rules) (last : Option Answer) (n : ℕ) (steps : List What) (told : List Answer) where
  abbrev kept : Result Resumed LedgerError
  kept = Ok (record { steps = steps; told = told })

  -- one that has all answers
  caught-all : caught R n last n steps told ≡ Ok (record { steps = steps; told = told })
  caught-all = ap (λ (b : Bool). if b then kept else (if n + 1 == n then with_last R steps told last else Err (Stale n n))) (eq-eqb n n refl)

  -- one that is one behind
  caught-last : caught R (n + 1) last n steps told ≡ with_last R steps told last
  caught-last =
      ap (λ (b : Bool). if b then kept else (if n + 1 == n + 1 then with_last R steps told last else Err (Stale n (n + 1)))) (ne_eqb n (n + 1) (λ q. omega arith))
      ∙ ap (λ (b : Bool). if b then with_last R steps told last else Err (Stale n (n + 1))) (eq-eqb (n + 1) (n + 1) refl)

taken-last : (R : Rules) (steps : List What) (told : List Answer) (a : Answer) → is_answer_to (shown (deed R steps)) a ≡ true
    → with_last R steps told (Some a) ≡ Ok (record { steps = after_answer R steps a; told = noted (is_let_go (shown (deed R steps))) a told })
taken-last R steps told a h = ap (λ (b : Bool). if b then Ok (record { steps = after_answer R steps a; told = noted (is_let_go (shown (deed R steps))) a told }) else Err Unfit) h

-- a session that is the same goes on as the other
same-session : (K H : List Event) (w : ℕ) (r : Result Resumed LedgerError) → session H w ≡ session K w → GoesOnAs K w r → GoesOnAs H w r
same-session K H w (Ok r) e g = subst (λ (own : List What). AreAlike own r.steps × (r.told ≡ own_answers own)) (sym e) g
same-session K H w (Err x) e g = g

-- ---- Ledgers

some-same : {A : Type 0} {a b : A} → Some a ≡ Some b → a ≡ b
some-same e = cc

module _ (P : Policy) (S : Script) where
  abbrev R : Rules
  R = rules_of P S.figures

  ledger-is : (K : List Event) (w : ℕ) → IsLegal (system_of S) R K → length K < 2 ^ 64 → AreAnswers (told_in K w) → IsLedger R w (ledger_of K w) (taken K w) (told_in K w)
  ledger-is K w l few told =
      let most : taken K w ≤ length K = taken_within K w in
      record { small = omega arith; told = told; stand = told-stands R (session K w) (told_session P S K w l); text = refl }

  pub hands_over : (K : List Event) (w : ℕ) → Legal P S K → HandsOver R K w K
  hands_over K w l told = (
    ledger-is K w l.0 l.1 told,
    subst (λ (r : Result Resumed LedgerError). GoesOnAs K w r) (sym (caught-all R (last_answer K w) (taken K w) (after_answers R [] (told_in K w)) (told_in K w)))
        (told-alike R (session K w) (told_session P S K w l.0), refl),
  )

  -- the ledger before the newest event, which is the worker's
  module _ (e : Event) (K : List Event) (w : ℕ) (l : IsLegal (system_of S) R (e ∷ K)) (own : is_step_of w e ≡ true) where
    abbrev steps : List What
    steps = after_answers R [] (told_in K w)

    alike : AreAlike (session K w) steps
    alike = told-alike R (session K w) (told_session P S K w l.1)

    answered : Answers (due P S K w) e.what
    answered = answered_step P S e K w l.0 (step_worker e w own)

    same-deed : deed R steps ≡ due P S K w
    same-deed = alike-deed R (session K w) steps alike

    fits : is_answer_to (shown (deed R steps)) (answer_of e.what) ≡ true
    fits =
        ap (λ (d : Deed). is_answer_to (shown d) (answer_of e.what)) same-deed
        ∙ fit_answer (due P S K w) (answer_of e.what) (has_answer (due P S K w) (answer_of e.what) (comes R (due P S K w) e.what answered (step_some e w own))) answered.fits

    after : after_answer R steps (answer_of e.what) ≡ joined e.what steps
    after =
        ap (λ (d : Deed). with_step (step_of d (answer_of e.what)) steps) same-deed
        ∙ (ap (λ (x : What). with_step x steps) answered.step
        ∙ ap (λ (b : Bool). if b then steps else joined e.what steps) (step_some e w own))

    after-alike : AreAlike (session (e ∷ K) w) (after_answer R steps (answer_of e.what))
    after-alike =
        subst (λ (o : List What). AreAlike (session (e ∷ K) w) o) (sym after)
        (subst (λ (o : List What). AreAlike o (joined e.what steps)) (sym (session_step e K w own)) (alike-joined e.what (session K w) steps alike))

    after-told : noted (is_let_go (shown (deed R steps))) (answer_of e.what) (told_in K w) ≡ told_in (e ∷ K) w
    after-told =
        ap (λ (d : Deed). noted (is_let_go (shown d)) (answer_of e.what) (told_in K w)) same-deed
        ∙ (noted_one R (due P S K w) e.what answered (step_some e w own) (session K w) ∙ ap own_answers (sym (session_step e K w own)))

    behind : GoesOnAs (e ∷ K) w (resumed R (taken (e ∷ K) w) (last_answer (e ∷ K) w) (taken K w) (told_in K w))
    behind =
        subst (λ (r : Result Resumed LedgerError). GoesOnAs (e ∷ K) w r)
        (sym (ap (λ (n : ℕ). resumed R n (last_answer (e ∷ K) w) (taken K w) (told_in K w)) (taken_step e K w own)
        ∙ (ap (λ (o : Option Answer). resumed R (taken K w + 1) o (taken K w) (told_in K w)) (last_step e K w own)
        ∙ (caught-last R (Some (answer_of e.what)) (taken K w) steps (told_in K w)
        ∙ taken-last R steps (told_in K w) (answer_of e.what) fits))))
        (after-alike, after-told)

  pub behind_hands_over : (K written : List Event) (w : ℕ) → IsLegal (system_of S) R K → length K < 2 ^ 64 → before_last K w ≡ Some written → HandsOver R K w written
  unfolding before_last
  behind_hands_over [] written w l few b told = absurd cc
  behind_hands_over (e ∷ K) written w l few b told = elim (cases_Bool (is_step_of w e)) [
    | inl h ↦
        let is : written ≡ K = some-same (sym b ∙ before_step e K w h) in
        subst (λ (H : List Event). HandsOver R (e ∷ K) w H) (sym is) (λ t. (ledger-is K w l.1 (omega arith) t, behind e K w l h)) told
    | inr h ↦
        let r = behind_hands_over K written w l.1 (omega arith) (sym (before-other e K w h) ∙ b) told in (
          r.0,
          subst (λ (x : Result Resumed LedgerError). GoesOnAs (e ∷ K) w x)
              (sym (ap (λ (n : ℕ). resumed R n (last_answer (e ∷ K) w) (taken written w) (told_in written w)) (taken_other e K w h)
              ∙ ap (λ (o : Option Answer). resumed R (taken K w) o (taken written w) (told_in written w)) (last-other e K w h)))
              (same-session K (e ∷ K) w (resumed R (taken K w) (last_answer K w) (taken written w) (told_in written w)) (session_other e K w h) r.1),
        )
  ]

pub ledgers_hand_over : (P : Policy) (S : Script) (K : List Event) (w : ℕ) → Legal P S K → HandsOver (rules_of P S.figures) K w K
ledgers_hand_over P S K w l = hands_over P S K w l

pub behind_hand_over : (P : Policy) (S : Script) (K written : List Event) (w : ℕ) → Legal P S K → before_last K w ≡ Some written → HandsOver (rules_of P S.figures) K w written
behind_hand_over P S K written w l b = behind_hands_over P S K written w l.0 l.1 b
