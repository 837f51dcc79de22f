-- What this project's own workers tell of an effect is what came of it, and they tell it once.
-- By the deed that an answer is, and what was taken of a request.
use Rattle.mediation.proofs.Common.{[], Act, Acts, AddfdPut, AddfdTake, any_of, ap, Bool, cases_Bool, Complete, Decision, Deed, eq-eqb, Err, Event, false, first_some, gives_up, inl, inr}
use Rattle.mediation.proofs.Common.{Injects, install_of, is_acting, IsLegal, length, List, None, notif, Ok, Option, or_parts, outcome_in, Plant, Plants, Policy, Progress, put_in, refl, Result, Rules, rules_of}
use Rattle.mediation.proofs.Common.{Script, Send, session, session_call, Some, sym, System, system_of, take_in, true, wanted, What, ℕ, ◌<◌, ◌==◌, ◌^◌, ◌||◌, ◌∙◌, ◌∷◌, ◌≡◌, ◌⊎◌, addfd_of}
use Rattle.sys_abi.specs.Errnos.{emfile}
use Rattle.hist_model.specs.Copies.{Faulty, Wants}
use Rattle.hist_model.specs.Legal.{judged as judged_copy, Legal}
use Rattle.hist_model.specs.Sessions.{after_act, decided_deed, Denies, inject_deed, Passes}
use Rattle.hist_model.specs.declared.event.Back.{Back}
use Rattle.hist_model.specs.declared.event.Back.TheVariants.{Continue, Value, Fail as FailBack}
use Rattle.mediation.proofs.Order.{IsInjection}
use Rattle.mediation.proofs.Rows.{WorkerRow}
use Rattle.broker_verdict.proofs.LegalAnswers.{act-done, deed_by, effect-kind, is_sound, no-effect, Sends, sends, some-done, value-done}
use Rattle.broker_verdict.proofs.LegalClauses.{keeps, none-some}
use Rattle.broker_verdict.proofs.LegalSeats.{effect_in, EffectIs}
use Rattle.broker_verdict.proofs.LegalTaken.{taken}
use Rattle.broker_verdict.specs.Answers.{allows_error, outcome_of, tells_otherwise}
use Rattle.broker_verdict.specs.Seats.{effect_of, is_effect}
use Rattle.broker_verdict.specs.Trusted.{Keeps, seat_breaks}
use Rattle.broker_verdict.specs.declared.clause.Clause.TheVariants.{OtherOutcome}

-- a request for a descriptor is the newest effect where nothing was done in the tree or the memory
put-done : (own : List What) (x : Result (Unit {0}) ℕ) → first_some outcome_in own ≡ None → first_some put_in own ≡ Some x → (a : What) × (first_some effect_in own ≡ Some a) × (put_in a ≡ Some x)
put-done [] x h p = cc
put-done (b ∷ own) x h p = elim (cases_Bool (is_effect b)) [
  | inl t ↦ elim (effect-kind b t) [ inl y ↦ absurd (cc (rw y.1 at h)) | inr y ↦ (b, rw t refl, y.1 ∙ rw y.1 at p) ]
  | inr f ↦ let n = no-effect b f in let ih = put-done own x (rw n.0 at h) (rw n.1 at p) in (ih.0, rw f ih.1, ih.2)
]

-- the session's answer is an error: of an effect in the tree or the memory, of a request that couldn't be put, or of one whose installation
-- failed
data Failed (own : List What) (e : ℕ) : Type 0 where
  acted : first_some outcome_in own ≡ Some (Err e) → Failed own e
  unput : first_some put_in own ≡ Some (Err e) → Failed own e
  untaken : (t : Result ℕ ℕ) → first_some put_in own ≡ Some (Ok tt) → first_some take_in own ≡ Some t → e ≡ emfile → Failed own e

failed-act : (own : List What) (i x e : ℕ) (deed : Deed) → (deed ≡ Deed.Send x (FailBack e) → ⊥) → (o : Option (Result (Unit {0}) ℕ)) → first_some outcome_in own ≡ o
    → after_act i o deed ≡ Deed.Send x (FailBack e) → Failed own e
failed-act own i x e deed n None q h = absurd (n h)
failed-act own i x e deed n (Some (Ok u)) q h = absurd (cc h)
failed-act own i x e deed n (Some (Err f)) q h = let z : f ≡ e = cc in acted (q ∙ ap (λ (k : ℕ). Some (Err k)) z)

failed-put : (own : List What) (i x e src : ℕ) (at : Option ℕ) (flags : ℕ) (o : Option (Result (Unit {0}) ℕ)) (t : Option (Result ℕ ℕ)) → first_some put_in own ≡ o → first_some take_in own ≡ t
    → inject_deed i (addfd_of i src at flags) o t ≡ Deed.Send x (FailBack e) → Failed own e
failed-put own i x e src at flags None t p q h = absurd (cc h)
failed-put own i x e src at flags (Some (Err f)) t p q h = let z : f ≡ e = cc in unput (p ∙ ap (λ (k : ℕ). Some (Err k)) z)
failed-put own i x e src at flags (Some (Ok u)) None p q h = absurd (cc h)
failed-put own i x e src at flags (Some (Ok u)) (Some y) p q h = untaken y p q cc

failed : (own : List What) (i x e : ℕ) (d : Decision) → decided_deed i own d ≡ Deed.Send x (FailBack e) → (is_acting d ≡ true) ⊎ IsInjection d → Failed own e
failed own i x e (Denies f) h g = absurd (elim g [ inl y ↦ cc y | inr y ↦ cc (y.3) ])
failed own i x e Passes h g = absurd (cc h)
failed own i x e (Acts q limit) h g = failed-act own i x e (Deed.Act q limit) (λ z. cc z) (first_some outcome_in own) refl h
failed own i x e (Plants a b limit) h g = failed-act own i x e (Deed.Plant a b limit) (λ z. cc z) (first_some outcome_in own) refl h
failed own i x e (Injects src at flags) h g = failed-put own i x e src at flags (first_some put_in own) (first_some take_in own) refl refl h

module _ (P : Policy) (S : Script) where
  abbrev R : Rules
  R = rules_of P S.figures

  abbrev T : System
  T = system_of S

  -- a session that has done something has decided to
  effect-decided : (K : List Event) (w x : ℕ) (b : Back) (s : Sends P S K w x b) (a : What) → first_some effect_in (session K w) ≡ Some a
      → ((is_acting (judged_copy P S.figures (notif K s.call) s.copy) ≡ true) ⊎ IsInjection (judged_copy P S.figures (notif K s.call) s.copy)) × (is_sound s.copy ≡ true)
  effect-decided K w x b s a h = elim (some-done (session K w) a h) [
    | inl y ↦ let g = s.acted y.0 y.1 in (inl g.0, g.1)
    | inr y ↦ let g = s.put y.0 y.1 in (inr g.0, g.1)
  ]

  fails-so : (K : List Event) (w x e : ℕ) (s : Sends P S K w x (FailBack e)) (a : What) → first_some effect_in (session K w) ≡ Some a → Failed (session K w) e
  fails-so K w x e s a h = let g = effect-decided K w x (FailBack e) s a h in go s.copy s.whole s.deed g.0 g.1
    where
      go : (copy : Progress) → wanted copy ≡ None → deed_by P S.figures (notif K s.call) (session K w) copy ≡ Deed.Send x (FailBack e)
          → (is_acting (judged_copy P S.figures (notif K s.call) copy) ≡ true) ⊎ IsInjection (judged_copy P S.figures (notif K s.call) copy) → is_sound copy ≡ true → Failed (session K w) e
      go (Wants a l) z h g f = absurd (cc z)
      go (Faulty f) z h g y = absurd (cc y)
      go (Complete texts) z h g y = failed (session K w) (notif K s.call).id x e (judged_copy P S.figures (notif K s.call) (Complete texts)) h g

  -- ---- an effect allows the error that is told of it

  act-allows : (K : List Event) (p e : ℕ) (a : What) → outcome_in a ≡ Some (Err e) → allows_error (outcome_of K p a) a e ≡ true
  act-allows K p e (Act q limit (Err f)) h = let z : f ≡ e = cc in eq-eqb e f (sym z)
  act-allows K p e (Act q limit (Ok u)) h = cc
  act-allows K p e (Plant x b limit (Err f)) h = let z : f ≡ e = cc in eq-eqb e f (sym z)
  act-allows K p e (Plant x b limit (Ok u)) h = cc
  act-allows K p e a h = cc

  put-allows : (K : List Event) (p e : ℕ) (a : What) → put_in a ≡ Some (Err e) → allows_error (outcome_of K p a) a e ≡ true
  put-allows K p e (AddfdPut q (Err f)) h = let z : f ≡ e = cc in eq-eqb e f (sym z)
  put-allows K p e (AddfdPut q (Ok u)) h = cc
  put-allows K p e a h = cc

  or-last : (a b : Bool) → b ≡ true → (a || b) ≡ true
  or-last true b h = refl
  or-last false b h = h

  take-allows : (K : List Event) (p e y : ℕ) (a : What) (u : Unit {0}) → put_in a ≡ Some (Ok u) → install_of K p ≡ Some (Err y) → e ≡ emfile → allows_error (outcome_of K p a) a e ≡ true
  take-allows K p e y (AddfdPut q (Ok v)) u h i z = rw i (or-last (e == y) (e == emfile) (eq-eqb e emfile z))
  take-allows K p e y (AddfdPut q (Err f)) u h i z = cc
  take-allows K p e y a u h i z = cc

  -- what was taken by a session that goes on is an error
  pub taken-error : (own : List What) (t : Result ℕ ℕ) → any_of gives_up own ≡ false → first_some take_in own ≡ Some t → (y : ℕ) × (t ≡ Err y)
  taken-error [] t g h = cc
  taken-error (AddfdTake (Ok m) ∷ own) t g h = absurd (cc g)
  taken-error (AddfdTake (Err y) ∷ own) t g h = (y, cc)
  taken-error (b ∷ own) t g h = taken-error own t (or_parts (gives_up b) (any_of gives_up own) g).1 h

  outcome-none : (own : List What) (x : Result (Unit {0}) ℕ) (o : Option (Result (Unit {0}) ℕ)) → first_some outcome_in own ≡ o → ((y : Result (Unit {0}) ℕ) → first_some outcome_in own ≡ Some y → ⊥) → first_some outcome_in own ≡ None
  outcome-none own x None q never = q
  outcome-none own x (Some y) q never = absurd (never y q)

  both : (d : Decision) → is_acting d ≡ true → IsInjection d → ⊥
  both d g i = cc (rw i.3 at g)

  allows : (K : List Event) (w x e p : ℕ) (s : Sends P S K w x (FailBack e)) (a : What) → IsLegal T R K → length K < 2 ^ 64 → effect_of K w ≡ Some p → first_some effect_in (session K w) ≡ Some a
      → Failed (session K w) e → allows_error (outcome_of K p a) a e ≡ true
  allows K w x e p s a legal room q h (acted o) =
      let own = session K w in
      let none = no-put (first_some put_in own) refl (λ y z. both (judged_copy P S.figures (notif K s.call) s.copy) (s.acted (Err e) o).0 (s.put y z).0) in
      let d = act-done own (Err e) none o in
      let m : d.0 ≡ a = cc (d.1, h) in
      act-allows K p e a (rw m at d.2)
    where
      no-put : (o : Option (Result (Unit {0}) ℕ)) → first_some put_in (session K w) ≡ o → ((y : Result (Unit {0}) ℕ) → first_some put_in (session K w) ≡ Some y → ⊥) → first_some put_in (session K w) ≡ None
      no-put None q never = q
      no-put (Some y) q never = absurd (never y q)
  allows K w x e p s a legal room q h (unput o) =
      let own = session K w in
      let none = outcome-none own (Err e) (first_some outcome_in own) refl (λ y z. both (judged_copy P S.figures (notif K s.call) s.copy) (s.acted y z).0 (s.put (Err e) o).0) in
      let d = put-done own (Err e) none o in
      let m : d.0 ≡ a = cc (d.1, h) in
      put-allows K p e a (rw m at d.2)
  allows K w x e p s a legal room q h (untaken t o k z) =
      let own = session K w in
      let none = outcome-none own (Err e) (first_some outcome_in own) refl (λ y r. both (judged_copy P S.figures (notif K s.call) s.copy) (s.acted y r).0 (s.put (Ok tt) o).0) in
      let d = put-done own (Ok tt) none o in
      let m : d.0 ≡ a = cc (d.1, h) in
      let y = taken-error own t s.no_end k in
      let n = taken T R K legal room w s.call s.in_hand t k s.no_end in
      let r : n.0 ≡ p = cc (n.1, q) in
      take-allows K p e y.0 a tt (rw m at d.2) (rw r at n.2 ∙ ap (λ (v : Result ℕ ℕ). Some v) y.1) z

  outcome-told : (K : List Event) (w x : ℕ) (b : Back) (s : Sends P S K w x b) → IsLegal T R K → length K < 2 ^ 64 → tells_otherwise K w s.call b ≡ false
  outcome-told K w x Continue s legal room = refl
  outcome-told K w x (Value v) s legal room = let d = value-done P S K w x v s in rw (d.0, d.0, d.1) refl
  outcome-told K w x (FailBack e) s legal room = go (effect_of K w) refl s.effect_is
    where
      go : (p : Option ℕ) → effect_of K w ≡ p → EffectIs K w p → tells_otherwise K w s.call (FailBack e) ≡ false
      go None q i = rw q refl
      go (Some p) q i = rw (q, i.1, allows K w x e p s i.0 legal room q i.2 (fails-so K w x e s i.0 i.2)) refl

  outcome : (K : List Event) (w : ℕ) (what : What) → IsLegal T R K → length K < 2 ^ 64 → WorkerRow T R K w what → seat_breaks P S OtherOutcome K w what (session_call K w) ≡ false
  outcome K w (Send x b (Ok u)) legal room row = let s = sends P S K w x b (Ok u) legal room row in rw s.in_hand (outcome-told K w x b s legal room)
  outcome K w what legal room row = none-some (seat_breaks P S OtherOutcome K w what) refl (λ c. refl) (session_call K w)

pub outcome_so : (P : Policy) (S : Script) (K : List Event) → Legal P S K → Keeps P S OtherOutcome K
outcome_so P S = keeps P S OtherOutcome (λ K e. refl) (outcome P S)
