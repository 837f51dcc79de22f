-- This project's own workers answer a call once.
-- By what ends a session: a request that was put answers, unless it couldn't be put or installed.
use Rattle.mediation.proofs.Common.{[], Act, AddfdPut, AddfdTake, any_of, ap, arith, Bool, cases_Bool, Complete, Decision, Deed, Err, ev, Event, false, first_some, gives_up, inl, inr}
use Rattle.mediation.proofs.Common.{install_of, is_known_error, IsLegal, length, List, None, not, notif, Ok, Option, or_parts, Plant, Policy, Progress, put_in, refl, Result, Rules, rules_of}
use Rattle.mediation.proofs.Common.{Script, Send, session, session_call, Some, sym, System, system_of, take_in, true, wanted, What, ℕ, ◌&&◌, ◌<◌, ◌==◌, ◌^◌, ◌||◌, ◌∙◌, ◌∷◌, ◌≡◌, addfd_of}
use Rattle.sys_abi.specs.Errnos.{ebadf, emfile, enoent}
use Rattle.hist_model.specs.Copies.{Faulty, Wants}
use Rattle.hist_model.specs.Kinds.{has_send_flag}
use Rattle.hist_model.specs.Legal.{judged as judged_copy, Legal}
use Rattle.hist_model.specs.Sessions.{decided_deed, inject_deed}
use Rattle.hist_model.specs.declared.event.Back.{Back}
use Rattle.mediation.proofs.Hands.{by-session, FetchKept, StillKept, WorkKept}
use Rattle.mediation.proofs.Order.{IsInjection}
use Rattle.mediation.proofs.Replies.{errors_known}
use Rattle.mediation.proofs.Rows.{WorkerRow}
use Rattle.broker_verdict.proofs.LegalAnswers.{deed_by, is_sound, Sends, sends}
use Rattle.broker_verdict.proofs.LegalClauses.{keeps, none-some, unsent-yet}
use Rattle.broker_verdict.proofs.LegalOutcomes.{taken-error}
use Rattle.broker_verdict.proofs.LegalSeats.{effect_in, EffectIs}
use Rattle.broker_verdict.proofs.LegalTaken.{taken}
use Rattle.broker_verdict.specs.Answers.{cannot_put, is_answering, is_second, outcome_of}
use Rattle.broker_verdict.specs.Seats.{effect_of, has_sent, is_effect}
use Rattle.broker_verdict.specs.Trusted.{Keeps, seat_breaks}
use Rattle.broker_verdict.specs.declared.clause.Clause.TheVariants.{AnsweredAlready}

-- ---- the errors of a session that goes on

-- of a request that couldn't be put, and of one whose installation failed
abbrev OnlyKnown : List What → Type 0
OnlyKnown own = any_of gives_up own ≡ false → ((e : ℕ) → first_some put_in own ≡ Some (Err e) → (e == ebadf) ≡ true) × ((e : ℕ) → first_some take_in own ≡ Some (Err e) → ((e == ebadf) || (e == emfile)) ≡ true)

put-error : (e : ℕ) → ((e == ebadf) || (e == enoent)) ≡ true → (e == enoent) ≡ false → (e == ebadf) ≡ true
put-error e h g = grind arith

take-error : (e : ℕ) → ((e == ebadf) || ((e == emfile) || (e == enoent))) ≡ true → (e == enoent) ≡ false → ((e == ebadf) || (e == emfile)) ≡ true
take-error e h g = grind arith

known-more : (what : What) (own : List What) → is_known_error what ≡ true → OnlyKnown own → OnlyKnown (what ∷ own)
known-more (AddfdPut q (Err e)) own k ih g = let p = or_parts (gives_up (AddfdPut q (Err e))) (any_of gives_up own) g in
    ((λ f h. let z : e ≡ f = cc in rw (← z) (put-error e k p.0)), (ih p.1).1)
known-more (AddfdPut q (Ok u)) own k ih g = let p = or_parts (gives_up (AddfdPut q (Ok u))) (any_of gives_up own) g in ((λ f h. cc), (ih p.1).1)
known-more (AddfdTake (Err e)) own k ih g = let p = or_parts (gives_up (AddfdTake (Err e))) (any_of gives_up own) g in
    ((ih p.1).0, (λ f h. let z : e ≡ f = cc in rw (← z) (take-error e k p.0)))
known-more (AddfdTake (Ok m)) own k ih g = cc
known-more what own k ih g = ih (or_parts (gives_up what) (any_of gives_up own) g).1

module _ (S : System) (R : Rules) where
  abbrev Known : List Event → ℕ → ℕ → Type 0
  Known K w c = OnlyKnown (session K w)

  known-fetch : FetchKept S R Known
  known-fetch K a w c n legal room q row o idle own g = ((λ e h. cc (rw own at h)), (λ e h. cc (rw own at h)))

  known-work : WorkKept S R Known
  known-work K a w c what legal room q row v i s own ih = rw own (known-more what (session K w) (errors_known S R (ev a what ∷ K) legal room).0 ih)

  known-still : StillKept S R Known
  known-still K e w c legal room q i s own ih = rw own ih

  pub known : (K : List Event) → IsLegal S R K → length K < 2 ^ 64 → (w c : ℕ) → session_call K w ≡ Some c → Known K w c
  known = by-session S R Known known-fetch known-work known-still

-- ---- a session that sends and whose rule injects tells an error: of its request, or of its installation

data Unfilled (own : List What) : Type 0 where
  unput : (e : ℕ) → first_some put_in own ≡ Some (Err e) → Unfilled own
  untaken : (t : Result ℕ ℕ) → first_some take_in own ≡ Some t → Unfilled own

unfilled-put : (own : List What) (i x src : ℕ) (at : Option ℕ) (flags : ℕ) (b : Back) (o : Option (Result (Unit {0}) ℕ)) (t : Option (Result ℕ ℕ)) → first_some put_in own ≡ o → first_some take_in own ≡ t
    → inject_deed i (addfd_of i src at flags) o t ≡ Deed.Send x b → Unfilled own
unfilled-put own i x src at flags b None t p q h = absurd (cc h)
unfilled-put own i x src at flags b (Some (Err f)) t p q h = unput f p
unfilled-put own i x src at flags b (Some (Ok u)) None p q h = absurd (cc h)
unfilled-put own i x src at flags b (Some (Ok u)) (Some y) p q h = untaken y q

unfilled : (own : List What) (i x : ℕ) (b : Back) (d : Decision) → decided_deed i own d ≡ Deed.Send x b → IsInjection d → Unfilled own
unfilled own i x b d h g = unfilled-put own i x g.0 g.1 g.2 b (first_some put_in own) (first_some take_in own) refl refl (sym (ap (decided_deed i own) g.3) ∙ h)

-- the newest request for a descriptor is the session's newest effect's
put-of-effect : (own : List What) (a : What) (x : Result (Unit {0}) ℕ) → first_some effect_in own ≡ Some a → put_in a ≡ Some x → first_some put_in own ≡ Some x
put-of-effect [] a x h p = cc
put-of-effect (b ∷ own) a x h p = elim (cases_Bool (is_effect b)) [
  | inl t ↦ let m : b ≡ a = cc (rw t at h) in rw (m, p) refl
  | inr f ↦ let n = no-put b f in rw n (put-of-effect own a x (rw f at h) p)
]
  where
    no-put : (b : What) → is_effect b ≡ false → put_in b ≡ None
    no-put (Act q limit y) f = cc
    no-put (Plant addr bytes limit y) f = cc
    no-put (AddfdPut q y) f = cc
    no-put b f = refl

module _ (P : Policy) (S : Script) where
  abbrev R : Rules
  R = rules_of P S.figures

  abbrev T : System
  T = system_of S

  not-put : (b c : Bool) → c ≡ true → (b && not c) ≡ false
  not-put true c h = rw h refl
  not-put false c h = refl

  or-left : (a b : Bool) → a ≡ true → (a || b) ≡ true
  or-left a b h = rw h refl

  -- a request that was put, by the error with which it ended
  put-unanswered : (K : List Event) (w x p : ℕ) (b : Back) (s : Sends P S K w x b) (a : What) → IsLegal T R K → length K < 2 ^ 64 → effect_of K w ≡ Some p → first_some effect_in (session K w) ≡ Some a
      → (y : Result (Unit {0}) ℕ) → put_in a ≡ Some y → Unfilled (session K w) → cannot_put (outcome_of K p a) ≡ true
  put-unanswered K w x p b s (AddfdPut q (Err f)) legal room z h y r u =
      or-left (f == ebadf) (f == emfile) ((known T R K legal room w s.call s.in_hand s.no_end).0 f (put-of-effect (session K w) (AddfdPut q (Err f)) (Err f) h refl))
  put-unanswered K w x p b s (AddfdPut q (Ok v)) legal room z h y r (unput e o) = cc (put-of-effect (session K w) (AddfdPut q (Ok v)) (Ok v) h refl, o)
  put-unanswered K w x p b s (AddfdPut q (Ok v)) legal room z h y r (untaken t o) =
      let k = taken-error P S (session K w) t s.no_end o in
      let n = taken T R K legal room w s.call s.in_hand t o s.no_end in
      let m : n.0 ≡ p = cc (n.1, z) in
      let i : install_of K p ≡ Some (Err k.0) = rw m at n.2 ∙ ap (λ (v : Result ℕ ℕ). Some v) k.1 in
      rw i ((known T R K legal room w s.call s.in_hand s.no_end).1 k.0 (o ∙ ap (λ (v : Result ℕ ℕ). Some v) k.1))
  put-unanswered K w x p b s a legal room z h y r u = cc

  send-unfilled : (K : List Event) (w x : ℕ) (b : Back) (s : Sends P S K w x b) (y : Result (Unit {0}) ℕ) → first_some put_in (session K w) ≡ Some y → Unfilled (session K w)
  send-unfilled K w x b s y h = let g = s.put y h in go s.copy s.whole s.deed g.0 g.1
    where
      go : (copy : Progress) → wanted copy ≡ None → deed_by P S.figures (notif K s.call) (session K w) copy ≡ Deed.Send x b → IsInjection (judged_copy P S.figures (notif K s.call) copy) → is_sound copy ≡ true
          → Unfilled (session K w)
      go (Wants a l) z d g f = absurd (cc z)
      go (Faulty e) z d g f = absurd (cc f)
      go (Complete texts) z d g f = unfilled (session K w) (notif K s.call).id x b (judged_copy P S.figures (notif K s.call) (Complete texts)) d g

  unanswered-by : (K : List Event) (w x p : ℕ) (b : Back) (s : Sends P S K w x b) (a : What) → IsLegal T R K → length K < 2 ^ 64 → effect_of K w ≡ Some p → first_some effect_in (session K w) ≡ Some a
      → is_answering a (outcome_of K p a) ≡ false
  unanswered-by K w x p b s (AddfdPut q y) legal room z h =
      not-put (has_send_flag q) _ (put-unanswered K w x p b s (AddfdPut q y) legal room z h y refl (send-unfilled K w x b s y (put-of-effect (session K w) (AddfdPut q y) y h refl)))
  unanswered-by K w x p b s a legal room z h = refl

  second-never : (K : List Event) (w x : ℕ) (b : Back) (answer : Result (Unit {0}) ℕ) (s : Sends P S K w x b) → IsLegal T R K → length K < 2 ^ 64 → is_second K w answer ≡ false
  second-never K w x b (Ok u) s legal room = refl
  second-never K w x b (Err e) s legal room = go (effect_of K w) refl s.effect_is
    where
      unsent : has_sent K w ≡ false
      unsent = unsent-yet P S K w s.call legal room s.in_hand s.no_end

      go : (p : Option ℕ) → effect_of K w ≡ p → EffectIs K w p → is_second K w (Err e) ≡ false
      go None q i = rw (unsent, q) refl
      go (Some p) q i = rw (unsent, q, i.1) (unanswered-by K w x p b s i.0 legal room q i.2)

  once : (K : List Event) (w : ℕ) (what : What) → IsLegal T R K → length K < 2 ^ 64 → WorkerRow T R K w what → seat_breaks P S AnsweredAlready K w what (session_call K w) ≡ false
  once K w (Send x b a) legal room row = let s = sends P S K w x b a legal room row in rw s.in_hand (second-never K w x b a s legal room)
  once K w what legal room row = none-some (seat_breaks P S AnsweredAlready K w what) refl (λ c. refl) (session_call K w)

pub answered_once : (P : Policy) (S : Script) (K : List Event) → Legal P S K → Keeps P S AnsweredAlready K
answered_once P S = keeps P S AnsweredAlready (λ K e. refl) (once P S)
