-- Answers, installations and returns: whose they are, and what causes them.
-- By how far the call is, and the row of the step.
use Rattle.mediation.proofs.Common.{[], Actor, and_parts, answers, ap, arith, Back, back_of, Bool, both_ways, call_at, cases_Bool, cases_order, Each, eq-eqb, Err}
use Rattle.mediation.proofs.Common.{ErrorsKnown, ev, Event, event_at-below, event_at-here, event_at-older, false, false_from_ne_true, fetcher, first_sends, gave, has_send}
use Rattle.mediation.proofs.Common.{id, if◌then◌else◌, inl, inr, Install, install_of, installed, installs_for, is_accepted, is_busy, is_first, is_known_error, is_lost, is_send}
use Rattle.mediation.proofs.Common.{IsLegal, length, List, listed, LostIfGone, named, NamesOwn, NeverBusy, None, Notif, notif_of, Ok, or_cases, or_left, or_right, pos, puts_to}
use Rattle.mediation.proofs.Common.{queue, refl, reply, Resume, Rules, Send, session, session_call, settled, settles, Some, subst, sym, System, true, What}
use Rattle.mediation.proofs.Common.{Worker, worker_of, ℕ, ◌&&◌, ◌++◌, ◌<◌, ◌==◌, ◌^◌, ◌||◌, ◌∙◌, ◌∷◌, ◌≡◌, ◌⊎◌}
use Rattle.history_frames.proofs.Queued.{call-older, call-above, call-here}
use Rattle.hist_model.specs.Settlers.{installed_for, InstallsOwn, IsRequestOf, ResumesOwn, ReturnsInstalled, sent, Source}
use Rattle.hist_model.specs.declared.event.Back.TheVariants.{Value}
use Rattle.mediation.proofs.KernelRows.{TaskRow}
use Rattle.mediation.proofs.Rows.{WorkerRow, Row, by-steps, by-few-steps, each}
use Rattle.mediation.proofs.Tasks.{waits-in-call}
use Rattle.mediation.proofs.Calls.{settles-once, before-older, before-newest}
use Rattle.mediation.proofs.Hands.{InSession, works, at-work, in-hand, hand, named-own}
use Rattle.mediation.proofs.Phases.{install-first, installing, install-above, fetcher-fetched, fetcher-stays, hand-fetcher, actor-acts, fine}
use Rattle.mediation.proofs.Phases.{at-call}
use Rattle.sys_abi.specs.Errnos.{enoent, ebadf, emfile}

-- ---- each request of a call is its session's

abbrev pub has : List ℕ → ℕ → Bool
has [] r = false
has (q ∷ qs) r = (q == r) || has qs r

has-push : (qs : List ℕ) (p r : ℕ) → has (qs ++ p ∷ []) r ≡ (has qs r || (p == r))
has-push [] p r = grind arith
has-push (q ∷ qs) p r = let ih = has-push qs p r in grind arith

-- a request in a queue was in it before, or is put now
pub queue-has : (e : Event) (K : List Event) (c r : ℕ) → has (queue (e ∷ K) c) r ≡ true → (has (queue K c) r ≡ true) ⊎ ((puts_to K e.what c ≡ true) × (r ≡ length K))
unfolding queue
queue-has e K c r h = grind (arith, has-push)

module _ (S : System) (R : Rules) where
  request-later : (K : List Event) (e : Event) (c r w : ℕ) → IsLegal S R K → length K < 2 ^ 64 → Row S R K e.who e.what → IsRequestOf K c r w → IsRequestOf (e ∷ K) c r w
  request-later K e c r w legal room row i =
      let l : r < length K = i.below in
      let f = fetcher-stays S R K e c legal room row (fetcher-fetched K c w i.session_of) in
      record { below = omega arith; for_call = call-older e K r l ∙ i.for_call; sends = rw event_at-older i.sends; put_by = rw event_at-older i.put_by; session_of = f ∙ i.session_of }

  -- each request of a worker has SEND
  puts-send : (K : List Event) (a : Actor) (what : What) (c : ℕ) → Row S R K a what → puts_to K what c ≡ true → has_send what ≡ true
  puts-send K a what c r h = grind arith

  put-own : (K : List Event) (e : Event) (c : ℕ) → IsLegal S R K → length K < 2 ^ 64 → Row S R K e.who e.what → puts_to K e.what c ≡ true → (w : ℕ) × IsRequestOf (e ∷ K) c (length K) w
  put-own K e c legal room row h =
      let v = actor-acts S R K e.who e.what c legal room row (or_left (puts_to K e.what c) (answers K e.what c) h) in
      let f = hand-fetcher S R K legal room v.0 c v.2 in (
        v.0,
        record {
          below = omega arith;
          for_call = call-here e K ∙ grind arith;
          sends = rw event_at-here (puts-send K e.who e.what c row h);
          put_by = rw event_at-here (ap worker_of v.1);
          session_of = fetcher-stays S R K e c legal room row (fetcher-fetched K c v.0 f) ∙ f;
        },
      )

  all-own : (K : List Event) → IsLegal S R K → length K < 2 ^ 64 → (c r : ℕ) → has (queue K c) r ≡ true → (w : ℕ) × IsRequestOf K c r w
  all-own = by-few-steps S R (λ K. (c r : ℕ) → has (queue K c) r ≡ true → (w : ℕ) × IsRequestOf K c r w) (λ c r h. absurd (unfold queue in cc)) (λ K e legal room row ih c r h. elim (queue-has e K c r h) [
    | inl q ↦ let i = ih c r q in (i.0, request-later K e c r i.0 legal room row i.1)
    | inr q ↦ rw q.1 (put-own K e c legal room row q.0)
  ])

  first-own : (K : List Event) (c r : ℕ) (rs : List ℕ) → IsLegal S R K → length K < 2 ^ 64 → queue K c ≡ r ∷ rs → (w : ℕ) × IsRequestOf K c r w
  first-own K c r rs legal room q = all-own K legal room c r (rw q (or_left (r == r) _ (eq-eqb r r refl)))

  pub installs_own : (K : List Event) → IsLegal S R K → length K < 2 ^ 64 → Each InstallsOwn K
  installs_own = each S R InstallsOwn (λ K e legal room row n x who what.
      let r : TaskRow S K n (Install x) = rw (who, what) at row in
      let c = r.1.0 in
      let l = waits-in-call K n c r.1.1 in
      let i = install-first S K x c (queue K c) refl r.1.3 r.1.2 in
      let o = first-own K c i.first i.rest legal room i.queue_is in
      (c, i.first, o.0, record { in_call = r.1.1; on_list = l.0; by_caller = l.1; is_next = i.is_next; request = o.1 }))

  -- ---- a return gives what the call's session sent, or the number that was installed for it

  source-later : (K : List Event) (e : Event) (c w : ℕ) (b : Back) → IsLegal S R K → length K < 2 ^ 64 → Row S R K e.who e.what → settled K c ≡ true → Source K c w b → Source (e ∷ K) c w b
  unfolding install_of
  source-later K e c w b legal room row s (sent p x b' u d q h g a) = let l = event_at-below K p d q in sent p x b' u d (rw event_at-older q) h g (rw (before-older e K p (omega arith)) a)
  source-later K e c w b legal room row s (installed_for r n h g) =
      let f : installs_for K e c ≡ false = false_from_ne_true (installs_for K e c) (λ z. cc (s, (installing S R K e.who e.what c legal row z).unsettled)) in
      installed_for r n (request-later K e c r w legal room row h) (rw (h.for_call, f) g)

  settled-send : (K : List Event) (e : Event) (c : ℕ) → IsLegal S R K → length K < 2 ^ 64 → Row S R K e.who e.what → answers K e.what c ≡ true
      → (w : ℕ) × (fetcher K c ≡ Some w) × Source (e ∷ K) c w (back_of e.what)
  settled-send K e c legal room row h =
      let v = actor-acts S R K e.who e.what c legal room row (or_right (puts_to K e.what c) (answers K e.what c) h) in
      let k = a-send e.what h in
      (v.0, hand-fetcher S R K legal room v.0 c v.2, sent (length K) k.0 (back_of e.what) k.1 e (event_at-here e K) v.1 k.2 (rw (before-newest e K) h))
    where
      a-send : (what : What) → answers K what c ≡ true → (x : ℕ) × (u : Unit {0}) × (what ≡ Send x (back_of what) (Ok u))
      a-send (Send x b (Ok u)) h = (x, u, refl)
      a-send what h = cc

  settled-install : (K : List Event) (e : Event) (c : ℕ) → IsLegal S R K → length K < 2 ^ 64 → Row S R K e.who e.what → installs_for K e c ≡ true → gave e.what ≡ true
      → (w : ℕ) × (fetcher K c ≡ Some w) × Source (e ∷ K) c w (back_of e.what)
  unfolding install_of
  settled-install K e c legal room row f g =
      let i = installing S R K e.who e.what c legal row f in
      let o = first-own K c i.first i.rest legal room i.queue_is in
      let k = number e.what g in
      let h : install_of (e ∷ K) i.first ≡ Some (Ok k.0) = rw (o.1.for_call, f, i.is_next) (ap installed k.1) in
      (o.0, o.1.session_of, subst (Source (e ∷ K) c o.0) (sym k.2) (installed_for i.first k.0 (request-later K e c i.first o.0 legal room row o.1) h))
    where
      number : (what : What) → gave what ≡ true → (n : ℕ) × (what ≡ Install (Ok n)) × (back_of what ≡ Value (pos n))
      number what h = grind arith

  abbrev pub Settled : List Event → ℕ → Type 0
  Settled K c = (w : ℕ) × (fetcher K c ≡ Some w) × Source K c w (reply K c)

  settled-by : (K : List Event) → IsLegal S R K → length K < 2 ^ 64 → (c : ℕ) → settled K c ≡ true → Settled K c
  unfolding settled reply
  settled-by = by-few-steps S R (λ K. (c : ℕ) → settled K c ≡ true → Settled K c) (λ c h. cc) (λ K e legal room row ih c h.
      let stays = λ (w : ℕ) (f : fetcher K c ≡ Some w). fetcher-stays S R K e c legal room row (fetcher-fetched K c w f) ∙ f in
      elim (cases_Bool (settles K e c)) [
        | inl q ↦ rw q (elim (or_cases (answers K e.what c) (installs_for K e c && (gave e.what && first_sends K (queue K c))) q) [
          | inl a ↦ let z = settled-send K e c legal room row a in (z.0, stays z.0 z.1, z.2)
          | inr a ↦
              let p = and_parts (installs_for K e c) (gave e.what && first_sends K (queue K c)) a in
              let z = settled-install K e c legal room row p.0 (and_parts (gave e.what) (first_sends K (queue K c)) p.1).0 in
              (z.0, stays z.0 z.1, z.2)
        ])
        | inr q ↦ let s : settled K c ≡ true = rw q at h in let z = ih c s in rw q (z.0, stays z.0 z.1, source-later K e c z.0 (reply K c) legal room row s z.2)
      ])

  pub resumes_own : (K : List Event) → IsLegal S R K → length K < 2 ^ 64 → Each ResumesOwn K
  resumes_own = each S R ResumesOwn (λ K e legal room row n b who what.
      let r : TaskRow S K n (Resume b) = rw (who, what) at row in
      let c = r.1.0 in
      let l = waits-in-call K n c r.1.1 in
      let z = settled-by K legal room c r.1.2 in
      (c, z.0, l.0, l.1, z.1, rw r.1.3 z.2))

  -- a number that was installed for a call's request settles the call, and is its reply
  first-sends : (K : List Event) (rs : List ℕ) (r : ℕ) → (has rs r ≡ true → is_send K r ≡ true) → is_first rs r ≡ true → first_sends K rs ≡ true
  first-sends K rs r sends h = grind arith

  gave-back : (what : What) (m : ℕ) → installed what ≡ Some (Ok m) → (gave what ≡ true) × (back_of what ≡ Value (pos m))
  gave-back what m h = grind arith

  gave-more : (K : List Event) (e : Event) (c r m : ℕ) → (has (queue K c) r ≡ true → is_send K r ≡ true) → (settles K e c ≡ true → settled K c ≡ false) → call_at K r ≡ Some c
      → (install_of K r ≡ Some (Ok m) → (settled K c ≡ true) × (reply K c ≡ Value (pos m))) → install_of (e ∷ K) r ≡ Some (Ok m) → (settled (e ∷ K) c ≡ true) × (reply (e ∷ K) c ≡ Value (pos m))
  unfolding install_of settled reply
  gave-more K e c r m sends once q ih h = elim (cases_Bool (installs_for K e c && is_first (queue K c) r)) [
    | inl p ↦
        let g = gave-back e.what m (rw (q, p) at h) in
        let t = and_parts (installs_for K e c) (is_first (queue K c) r) p in
        let z : settles K e c ≡ true = or_right (answers K e.what c) _ (rw (t.0, g.0) (first-sends K (queue K c) r sends t.1)) in
        rw z (refl, g.1)
    | inr p ↦ let i = ih (rw (q, p) at h) in rw (false_from_ne_true (settles K e c) (λ z. both_ways (settled K c) (once z) i.0)) i
  ]

  gave-number : (K : List Event) → IsLegal S R K → length K < 2 ^ 64 → (c r m : ℕ) → call_at K r ≡ Some c → install_of K r ≡ Some (Ok m) → (settled K c ≡ true) × (reply K c ≡ Value (pos m))
  gave-number = by-few-steps S R (λ K. (c r m : ℕ) → call_at K r ≡ Some c → install_of K r ≡ Some (Ok m) → (settled K c ≡ true) × (reply K c ≡ Value (pos m)))
      (λ c r m q h. absurd (cc (call-above [] r (omega arith), q)))
      (λ K e legal room row ih c r m q h. elim (cases_order r (length K)) [
        | inl z ↦ absurd (cc (install-above (e ∷ K) (length K) (omega arith), rw z at h))
        | inr (inl l) ↦ let p = sym (call-older e K r l) ∙ q in gave-more K e c r m (λ z. (all-own K legal room c r z).1.sends) (settles-once S R K e c legal row) p (ih c r m p) h
        | inr (inr l) ↦ absurd (cc (call-above (e ∷ K) r (omega arith), q))
      ])

  pub returns_installed : (K : List Event) → IsLegal S R K → length K < 2 ^ 64 → Each ReturnsInstalled K
  returns_installed = each S R ReturnsInstalled (λ K e legal room row n b who what c r m k q h.
      let t : TaskRow S K n (Resume b) = rw (who, what) at row in let g = gave-number K legal room c r m q h in grind arith)

  -- ---- answers: whose they are, and when they tell that a call is gone

  -- an accepted step is for the call that its session's id names
  accepts : (K : List Event) (w c : ℕ) (what : What) (n : Notif) → WorkerRow S R K w what → is_accepted what ≡ true → notif_of (session K w) ≡ Some n
      → named K n.id ≡ (if listed K c then Some c else None) → (puts_to K what c || answers K what c) ≡ true
  accepts K w c what n r h q m = grind arith

  pub names_own : (K : List Event) → IsLegal S R K → length K < 2 ^ 64 → Each NamesOwn K
  names_own = each S R NamesOwn (λ K e. own K e.who e.what)
    where
      own : (K : List Event) (a : Actor) (what : What) → IsLegal S R K → length K < 2 ^ 64 → Row S R K a what → NamesOwn K (ev a what)
      own K (Worker w) what legal room row h =
          let g = at-work S R K w what row (grind arith) in
          let j = in-hand K w (session_call K w) g.0 g.1 (hand S R K legal room w) in
          record { worker = w; call = j.0; taken_by = refl; of_call = j.1; names = accepts K w j.0 what j.2.n row h j.2.notif_is (named-own S R K w j.0 legal room j.2) }
      own K a what legal room row h = grind arith

  pub lost_if_gone : (K : List Event) → IsLegal S R K → length K < 2 ^ 64 → Each LostIfGone K
  lost_if_gone = each S R LostIfGone (λ K e legal room row w who z.
      let r : WorkerRow S R K w e.what = rw who at row in
      let v : works e.what ≡ true = grind arith in
      let g = at-work S R K w e.what r v in
      let j = in-hand K w (session_call K w) g.0 g.1 (hand S R K legal room w) in
      record {
        call = j.0;
        of_call = j.1;
        not_listed = false_from_ne_true (listed K j.0) (λ l. both_ways (is_lost e.what) (fine S R K e.who w j.0 legal room l j.2 (at-call S R K legal room w j.0 j.1 l) e.what r v).0 z);
      })

  install-known : (K : List Event) → IsLegal S R K → (p x : ℕ) → install_of K p ≡ Some (Err x) → ((x == ebadf) || ((x == emfile) || (x == enoent))) ≡ true
  unfolding install_of
  install-known = by-steps S R (λ K. (p x : ℕ) → install_of K p ≡ Some (Err x) → ((x == ebadf) || ((x == emfile) || (x == enoent))) ≡ true) (λ p x h. cc) (λ K e legal row ih p x h. let y = ih p x in grind arith)

  -- where the call is gone, its id names nothing
  gone-known : (K : List Event) (w c : ℕ) (what : What) → IsLegal S R K → WorkerRow S R K w what → (i : InSession K w c) → named K i.n.id ≡ None → is_known_error what ≡ true
  gone-known K w c what legal r i q = let k = install-known K legal in grind arith

  -- no error of a worker's step is unknown
  pub error-known : (K : List Event) (a : Actor) (what : What) → IsLegal S R K → length K < 2 ^ 64 → Row S R K a what → is_known_error what ≡ true
  error-known K (Worker w) what legal room row = elim (cases_Bool (works what)) [
    | inl v ↦
        let g = at-work S R K w what row v in
        let j = in-hand K w (session_call K w) g.0 g.1 (hand S R K legal room w) in
        elim (cases_Bool (listed K j.0)) [
          | inl l ↦ (fine S R K (Worker w) w j.0 legal room l j.2 (at-call S R K legal room w j.0 j.1 l) what row v).1
          | inr l ↦ gone-known K w j.0 what legal row j.2 (rw l at (named-own S R K w j.0 legal room j.2))
        ]
    | inr v ↦ grind arith
  ]
  error-known K a what legal room row = grind arith

  pub errors_known : (K : List Event) → IsLegal S R K → length K < 2 ^ 64 → Each ErrorsKnown K
  errors_known = each S R ErrorsKnown (λ K e. error-known K e.who e.what)

  known-not-busy : (what : What) → is_known_error what ≡ true → is_busy what ≡ false
  known-not-busy what h = grind arith

  pub never_busy : (K : List Event) → IsLegal S R K → length K < 2 ^ 64 → Each NeverBusy K
  never_busy = each S R NeverBusy (λ K e legal room row. known-not-busy e.what (error-known K e.who e.what legal room row))
