-- Each answer has its cause, and each session ends for one.
-- By the errors that its session met: each step's is known, and what a step told of the steps before it.
use Rattle.mediation.proofs.Common.{[], Actor, any_of, arith, Back, cases_Bool, Cause, Deed, denied, done, Each, LetsGoAtEnd, ReceivesIdle, ends_work, Err, Event, false, faulty, first_some, gives_up, has_ended, HasCause, inl, inr}
use Rattle.mediation.proofs.Common.{is_known_error, is_letgo, is_open_session, IsLegal, joined, judged_deed, length, LetGo, List, not_put, not_taken, Notif, passed, put_in, reads_of}
use Rattle.mediation.proofs.Common.{Recv, Result, Rules, Send, session, session_call, Some, starts, sym, System, take_in, true, What, ℕ, ◌<◌, ◌==◌, ◌^◌, ◌||◌, ◌∙◌, ◌∷◌, ◌≡◌}
use Rattle.hist_model.specs.Kinds.{receives}
use Rattle.mediation.proofs.Rows.{WorkerRow, Row, by-few-steps, each}
use Rattle.mediation.proofs.Hands.{in-hand, hand}
use Rattle.mediation.proofs.Order.{is-own, used-two, ordered, gave-up-last, begun}
use Rattle.mediation.proofs.Replies.{error-known}
use Rattle.sys_abi.specs.Errnos.{ebadf, emfile}

-- ---- the errors that a session met

module _ (S : System) (R : Rules) where
  -- the error of a worker's step is known, and one after which its session gives up ends its work
  abbrev pub IsKnown : What → Type 0
  IsKnown what = (is_known_error what ≡ true) × (gives_up what ≡ true → ends_work what ≡ true)

  abbrev pub AllKnown : List What → Type 0
  AllKnown [] = Unit {0}
  AllKnown (a ∷ own) = IsKnown a × AllKnown own

  step-known : (K : List Event) (a : Actor) (what : What) → IsLegal S R K → length K < 2 ^ 64 → Row S R K a what → IsKnown what
  step-known K a what legal room row = let k = error-known S R K a what legal room row in (k, grind arith)

  joined-known : (what : What) (own : List What) → IsKnown what → AllKnown own → AllKnown (joined what own)
  joined-known what [] k ih = elim (cases_Bool (starts what)) [ inl q ↦ rw q (k, tt) | inr q ↦ rw q tt ]
  joined-known what (b ∷ own) k ih = elim (cases_Bool (starts what)) [ inl q ↦ rw q (k, tt) | inr q ↦ rw q (k, ih) ]

  all-known : (K : List Event) → IsLegal S R K → length K < 2 ^ 64 → (w : ℕ) → AllKnown (session K w)
  unfolding session
  all-known = by-few-steps S R (λ K. (w : ℕ) → AllKnown (session K w)) (λ w. tt) (λ K e legal room row ih w. let k = joined-known e.what (session K w) (step-known K e.who e.what legal room row) (ih w) in grind arith)

  -- ---- answers

  -- a put that failed, in a session that goes on, found that the broker has no such file; and a take found no number
  put-known : (own : List What) (e : ℕ) → AllKnown own → any_of gives_up own ≡ false → first_some put_in own ≡ Some (Err e) → e ≡ ebadf
  put-known [] e k g h = cc
  put-known (a ∷ own) e k g h = let ih = put-known own e k.1 in grind arith

  take-known : (own : List What) (t : Result ℕ ℕ) → AllKnown own → any_of gives_up own ≡ false → first_some take_in own ≡ Some t → (e : ℕ) × (t ≡ Err e) × (((e == ebadf) || (e == emfile)) ≡ true)
  take-known [] t k g h = cc
  take-known (a ∷ own) t k g h = let ih = take-known own t k.1 in grind arith

  -- why the deed is this answer
  cause-of : (own : List What) (n : Notif) (b : Back) → AllKnown own → any_of gives_up own ≡ false → judged_deed R n own (R.fault n (reads_of own)) ≡ Deed.Send n.id b → Cause R own n b
  cause-of own n b k g d = let p = λ (e : ℕ). put-known own e k g in let t = λ (x : Result ℕ ℕ). take-known own x k g in grind (arith, faulty, denied, passed, done, not_put, not_taken)

  pub has_cause : (K : List Event) → IsLegal S R K → length K < 2 ^ 64 → Each (HasCause R) K
  has_cause = each S R (HasCause R) (λ K e legal room row w x b y who what.
      let r : WorkerRow S R K w (Send x b y) = rw (who, what) at row in
      let t = r.0 in
      let j = in-hand K w (session_call K w) t.0 t.1 (hand S R K legal room w) in
      record {
        call = j.0;
        received = t.0;
        of_call = j.1;
        notif_is = t.1.notif_is;
        of_notif = sym j.3 ∙ j.2.whole_is;
        id_is = t.4;
        checked = used-two R (session K w) t.0 t.1 t.3 (ordered R (session K w) (is-own S R K legal w));
        whole = t.3.copied;
        cause = cause-of (session K w) t.0 b (all-known K legal room w) t.1.no_end t.5;
      })

  -- a session ends for its reasons
  pub lets_go_at_end : (K : List Event) → IsLegal S R K → length K < 2 ^ 64 → Each LetsGoAtEnd K
  lets_go_at_end = each S R LetsGoAtEnd (λ K e legal room row w who. let r : WorkerRow S R K w e.what = rw who at row in lets-go K w e.what legal room r)
    where
      lets-go : (K : List Event) (w : ℕ) (what : What) → IsLegal S R K → length K < 2 ^ 64 → WorkerRow S R K w what → is_letgo what ≡ true → has_ended (session K w) ≡ true
      lets-go K w LetGo legal room r z =
          let t = r.0 in
          let g = gave-up-last R (session K w) t.0 (is-own S R K legal w) t.1 t.2 t.3 in
          rw g.2 ((rw g.2 at (all-known K legal room w)).0.1 g.3)
      lets-go K w what legal room r z = cc

  pub receives_idle : (K : List Event) → IsLegal S R K → length K < 2 ^ 64 → Each ReceivesIdle K
  receives_idle = each S R ReceivesIdle (λ K e legal room row w who. let r : WorkerRow S R K w e.what = rw who at row in receives-anew K w e.what legal r)
    where
      receives-anew : (K : List Event) (w : ℕ) (what : What) → IsLegal S R K → WorkerRow S R K w what → receives what ≡ true → is_open_session (session K w) ≡ false
      receives-anew K w (Recv a) legal r z = let b = begun S R K legal w in grind arith
      receives-anew K w what legal r z = cc
