-- How far a listed call is: not fetched, in hand, or answered.
-- By induction on a legal history, through the worker that has the call in hand.
use Rattle.mediation.proofs.Common.{[], Actor, Addfd, AddfdPut, AddfdTake, answers, any_of, arith, below_or_last, Bool, both_ways, call_at, call_of, caller, cases_Bool, Check}
use Rattle.mediation.proofs.Common.{eq-eqb, Err, ev, Event, event_at-here, event_at-older, false, false_from_ne_true, fetched, fetcher, fetches, first_some, gives_up, id, inl, inr, Install}
use Rattle.mediation.proofs.Common.{install_at, install_of, install_step, installs_for, is_first, is_known_error, is_lost, is_place, is_send, is_worker, IsLegal, length, List, listed, name_eq-true, name_of}
use Rattle.mediation.proofs.Common.{named, None, Ok, oldest_unfetched, OpenBase, OpenMem, Option, or_left, or_parts, or_right, put_in, puts_to, queue, Recv, refl, request_after, request_of}
use Rattle.mediation.proofs.Common.{Result, Rules, Send, session, session_call, SessionsSettle, settled, settles, slot_answer, Some, sym, System, take_in, take_step, Task, true, waiting, What}
use Rattle.mediation.proofs.Common.{Worker, ℕ, ◌&&◌, ◌+◌, ◌<◌, ◌==◌, ◌^◌, ◌||◌, ◌∙◌, ◌∷◌, ◌≡◌, ◌≤◌, ◌⊎◌}
use Rattle.history_frames.proofs.Listed.{listed-below, is_call-below, fetched-new}
use Rattle.history_frames.proofs.Queued.{call-older, call-above, call-here}
use Rattle.mediation.proofs.Rows.{WorkerRow, Row, row-of, of-kernel, kernel-row, by-few-steps}
use Rattle.mediation.proofs.KernelCalls.{refetch}
use Rattle.mediation.proofs.Tasks.{same-name, listed-was, waits-here, place-is}
use Rattle.mediation.proofs.Calls.{ids_differ, fetching, named-fetched}
use Rattle.mediation.proofs.Hands.{InSession, works, at-work, no-fetch, in-hand, hand, in-hand-of, FetchKept, WorkKept, StillKept, by-session, named-own}
use Rattle.mediation.proofs.Order.{is-own, put-fixed, take-after_put}
use Rattle.mediation.proofs.Handles.{opens-own}
use Rattle.sys_abi.specs.Errnos.{ebadf, emfile}

-- ---- what changes a call's requests and its answer

-- nothing is asked of the call, and it is not answered
pub record Clean (K : List Event) (c : ℕ) : Type 0 where
  pub empty : queue K c ≡ []
  pub unsettled : settled K c ≡ false

-- the event does nothing to the call
record Calm (K : List Event) (e : Event) (c : ℕ) : Type 0 where
  pub no_put : puts_to K e.what c ≡ false
  pub no_install : installs_for K e c ≡ false
  pub no_answer : answers K e.what c ≡ false

calm-same : (e : Event) (K : List Event) (c : ℕ) → Calm K e c → (queue (e ∷ K) c ≡ queue K c) × (settled (e ∷ K) c ≡ settled K c)
unfolding queue settled
calm-same e K c m = (rw (m.no_put, m.no_install), rw (m.no_answer, m.no_install))

calm-clean : (e : Event) (K : List Event) (c : ℕ) → Calm K e c → Clean K c → Clean (e ∷ K) c
calm-clean e K c m k = let s = calm-same e K c m in record { empty = s.0 ∙ k.empty; unsettled = s.1 ∙ k.unsettled }

settled-more : (e : Event) (K : List Event) (c : ℕ) → settled K c ≡ true → settled (e ∷ K) c ≡ true
unfolding settled
settled-more e K c h = or_right (settles K e c) (settled K c) h

clean-waiting : (K : List Event) (c : ℕ) → listed K c ≡ true → fetched K c ≡ true → Clean K c → waiting K c ≡ true
clean-waiting K c l f k = rw (l, f, k.unsettled, k.empty)

-- an install is that of the first request of its task's call
pub record Installing (S : System) (K : List Event) (w : What) (c : ℕ) : Type 0 where
  pub first : ℕ
  pub rest : List ℕ
  pub queue_is : queue K c ≡ first ∷ rest
  pub is_next : is_first (queue K c) first ≡ true
  pub what_is : w ≡ Install (slot_answer (S.slot K c first))
  pub unsettled : settled K c ≡ false

pub install-first : (S : System) (K : List Event) (x : Result ℕ ℕ) (c : ℕ) (rs : List ℕ) → queue K c ≡ rs → Install x ≡ install_step S K c rs → settled K c ≡ false → Installing S K (Install x) c
install-first S K x c rs q h s = grind arith

pub installing : (S : System) (R : Rules) (K : List Event) (a : Actor) (w : What) (c : ℕ) → IsLegal S R K → Row S R K a w → installs_for K (ev a w) c ≡ true → Installing S K w c
installing S R K (Task n) (Install x) c legal r f =
    let s : call_of K n ≡ Some c = grind (arith, same-name, waits-here) in
    let m : r.1.0 ≡ c = cc (r.1.1, s) in
    install-first S K x c (queue K c) refl (rw m at r.1.3) (rw m at r.1.2)
installing S R K a w c legal r f = grind arith

-- a request that is put now, or still to come, has no install
pub install-above : (K : List Event) (r : ℕ) → length K ≤ r + 1 → install_of K r ≡ None
unfolding install_of
install-above [] r h = refl
install-above (e ∷ K) r h = rw (call-above K r (omega arith)) (install-above K r (omega arith))

-- ---- a call has one session

pub fetcher-fetched : (K : List Event) (c w : ℕ) → fetcher K c ≡ Some w → fetched K c ≡ true
unfolding fetcher fetched
fetcher-fetched [] c w h = cc
fetcher-fetched (e ∷ K) c w h = let ih = fetcher-fetched K c w in grind arith

pub fetcher-stays : (S : System) (R : Rules) (K : List Event) (e : Event) (c : ℕ) → IsLegal S R K → length K < 2 ^ 64 → Row S R K e.who e.what → fetched K c ≡ true → fetcher (e ∷ K) c ≡ fetcher K c
unfolding fetcher
fetcher-stays S R K e c legal room r f = rw (refetch S K e.who e.what c (of-kernel S R K legal) room (kernel-row S R K e.who e.what r) f)

-- what is in hand was fetched by that worker
pub hand-fetcher : (S : System) (R : Rules) (K : List Event) → IsLegal S R K → length K < 2 ^ 64 → (w c : ℕ) → session_call K w ≡ Some c → fetcher K c ≡ Some w
unfolding fetcher
hand-fetcher S R = by-session S R (λ K w c. fetcher K c ≡ Some w) now
    (λ K a w c what legal room q row v i s own ih. fetcher-stays S R K (ev a what) c legal.1 (omega arith) (row-of S R K (ev a what) legal.0) i.got ∙ ih)
    (λ K e w c legal room q i s own ih. fetcher-stays S R K e c legal.1 (omega arith) (row-of S R K e legal.0) i.got ∙ ih)
  where
    now : FetchKept S R (λ K w c. fetcher K c ≡ Some w)
    now K a w c n legal room q row o idle own = let f = fetching K n (oldest_unfetched K) refl row.1.1 in grind arith

-- only a worker asks and answers, and only for the call that it has in hand
pub actor-acts : (S : System) (R : Rules) (K : List Event) (a : Actor) (what : What) (c : ℕ) → IsLegal S R K → length K < 2 ^ 64 → Row S R K a what
    → (puts_to K what c || answers K what c) ≡ true → (v : ℕ) × (a ≡ Worker v) × (session_call K v ≡ Some c)
actor-acts S R K (Worker v) what c legal room r h =
    let g = at-work S R K v what r (grind arith) in
    let j = in-hand K v (session_call K v) g.0 g.1 (hand S R K legal room v) in
    let o = named-own S R K v j.0 legal room j.2 in
    (v, refl, grind arith)
actor-acts S R K a what c legal room r h = grind arith

module _ (S : System) (R : Rules) where
  -- so nothing happens to a call that no worker who acts has in hand
  calm-by : (K : List Event) (e : Event) (c : ℕ) → IsLegal S R K → length K < 2 ^ 64 → Row S R K e.who e.what
      → ((v : ℕ) → e.who ≡ Worker v → (puts_to K e.what c || answers K e.what c) ≡ true → session_call K v ≡ Some c → ⊥)
      → installs_for K e c ≡ false → Calm K e c
  calm-by K e c legal room r others f = record {
    no_put = false_from_ne_true (puts_to K e.what c) (λ z. acts (or_left _ _ z));
    no_install = f;
    no_answer = false_from_ne_true (answers K e.what c) (λ z. acts (or_right _ _ z));
  }
    where
      acts : (puts_to K e.what c || answers K e.what c) ≡ true → ⊥
      acts z = let v = actor-acts S R K e.who e.what c legal room r z in others v.0 v.1 z v.2

  -- a call that nobody fetched is clean
  unfetched-calm : (K : List Event) (e : Event) (c : ℕ) → IsLegal S R K → length K < 2 ^ 64 → Row S R K e.who e.what → fetched K c ≡ false → Clean K c → Calm K e c
  unfetched-calm K e c legal room r f k =
      calm-by K e c legal room r (λ v q z s. cc (f, (in-hand-of S R K v c legal room s).got)) (false_from_ne_true (installs_for K e c) (λ z. cc (k.empty, (installing S R K e.who e.what c legal r z).queue_is)))

  unfetched-clean : (K : List Event) → IsLegal S R K → length K < 2 ^ 64 → (c : ℕ) → fetched K c ≡ false → Clean K c
  unfolding fetched
  unfetched-clean = by-few-steps S R (λ K. (c : ℕ) → fetched K c ≡ false → Clean K c) (λ c f. record { empty = unfold queue in refl; unsettled = unfold settled in refl })
      (λ K e legal room r ih c f. let g = (or_parts (fetches e.what (id K c) && listed K c) (fetched K c) f).1 in calm-clean e K c (unfetched-calm K e c legal room r g (ih c g)) (ih c g))

  -- ---- a listed call goes with the session that has it in hand

  -- the request of the session for the call: still queued, or installed with this answer
  abbrev pub Placed : List Event → ℕ → ℕ → Option (Result ℕ ℕ) → Type 0
  Placed K c r None = (queue K c ≡ r ∷ []) × (settled K c ≡ false)
  Placed K c r (Some (Ok n)) = settled K c ≡ true
  Placed K c r (Some (Err x)) = ((x == ebadf) || (x == emfile)) ≡ true × Clean K c

  pub record Asked (K : List Event) (c w : ℕ) : Type 0 where
    pub r : ℕ
    pub mine : request_of K w ≡ Some r
    pub below : r < length K
    pub sends : is_send K r ≡ true
    pub for_call : call_at K r ≡ Some c
    pub placed : Placed K c r (install_of K r)

  -- by the session's put and take
  abbrev pub StageOf : List Event → ℕ → ℕ → Option (Result (Unit {0}) ℕ) → Option (Result ℕ ℕ) → Type 0
  StageOf K c w (Some (Ok u)) None = Asked K c w
  StageOf K c w p t = Clean K c

  pub record AtCall (K : List Event) (w c : ℕ) : Type 0 where
    pub over : any_of gives_up (session K w) ≡ true → settled K c ≡ true
    pub stage : any_of gives_up (session K w) ≡ false → StageOf K c w (first_some put_in (session K w)) (first_some take_in (session K w))

  -- the request one event later
  asked-later : (e : Event) (K : List Event) (c w : ℕ) → request_of (e ∷ K) w ≡ request_of K w → (a : Asked K c w) → Placed (e ∷ K) c a.r (install_of (e ∷ K) a.r) → Asked (e ∷ K) c w
  asked-later e K c w q a d =
      let l : a.r < length K = a.below in
      record { r = a.r; mine = q ∙ a.mine; below = omega arith; sends = rw event_at-older a.sends; for_call = call-older e K a.r l ∙ a.for_call; placed = d }

  placed-calm : (e : Event) (K : List Event) (c r : ℕ) → Calm K e c → call_at K r ≡ Some c → Placed K c r (install_of K r) → Placed (e ∷ K) c r (install_of (e ∷ K) r)
  unfolding install_of
  placed-calm e K c r m q p = let s = calm-same e K c m in grind (arith, calm-clean)

  stage-calm : (e : Event) (K : List Event) (c w : ℕ) (p : Option (Result (Unit {0}) ℕ)) (t : Option (Result ℕ ℕ)) → Calm K e c → request_of (e ∷ K) w ≡ request_of K w
      → StageOf K c w p t → StageOf (e ∷ K) c w p t
  stage-calm e K c w (Some (Ok u)) None m q a = asked-later e K c w q a (placed-calm e K c a.r m a.for_call a.placed)
  stage-calm e K c w p t m q k = calm-clean e K c m k

  placed-install : (S : System) (e : Event) (K : List Event) (c r : ℕ) → Installing S K e.what c → installs_for K e c ≡ true → is_send K r ≡ true → call_at K r ≡ Some c
      → Placed K c r (install_of K r) → Placed (e ∷ K) c r (install_of (e ∷ K) r)
  unfolding install_of queue settled
  placed-install S e K c r i f s q p = grind arith

  stage-install : (S : System) (e : Event) (K : List Event) (c w : ℕ) (p : Option (Result (Unit {0}) ℕ)) (t : Option (Result ℕ ℕ)) → request_of (e ∷ K) w ≡ request_of K w
      → installs_for K e c ≡ true → Installing S K e.what c → StageOf K c w p t → StageOf (e ∷ K) c w p t
  stage-install S e K c w (Some (Ok u)) None q f i a = asked-later e K c w q a (placed-install S e K c a.r i f a.sends a.for_call a.placed)
  stage-install S e K c w p t q f i k = absurd (cc (k.empty, i.queue_is))

  -- the session asks for the call to wait
  abbrev needs : What → Bool
  needs (Check x a) = true
  needs (AddfdPut q a) = true
  needs (Send x b a) = true
  needs _ = false

  -- the session asks for a descriptor, or answers
  abbrev asks : What → Bool
  asks (AddfdPut q a) = true
  asks (AddfdTake a) = true
  asks (Send x b a) = true
  asks _ = false

  stage-clean : (K : List Event) (c w : ℕ) (p : Option (Result (Unit {0}) ℕ)) (t : Option (Result ℕ ℕ)) → ((u : Unit {0}) → p ≡ Some (Ok u) → t ≡ None → ⊥) → StageOf K c w p t → Clean K c
  stage-clean K c w p t unasked s = grind arith

  -- a worker's step while its call is listed
  module _ (K : List Event) (a : Actor) (w c : ℕ) (legal : IsLegal S R K) (room : length K < 2 ^ 64) (l : listed K c ≡ true) (i : InSession K w c) (h : AtCall K w c) where
    named-it : (x : ℕ) → x ≡ i.n.id → named K x ≡ Some c
    named-it x q = let o = named-own S R K w c legal room i in rw q (rw l at o)

    clean-now : (what : What) → WorkerRow S R K w what → needs what ≡ true → Clean K c
    clean-now what r d = stage-clean K c w (first_some put_in (session K w)) (first_some take_in (session K w)) unasked (h.stage (at-work S R K w what r (grind arith)).1.no_end)
      where
        unasked : (u : Unit {0}) → first_some put_in (session K w) ≡ Some (Ok u) → first_some take_in (session K w) ≡ None → ⊥
        unasked u p t = let f = put-fixed R (session K w) (is-own S R K legal w) i.n (Ok u) i.notif_is p in grind arith

    -- the answer to a take is that of the request's install
    take-is : (y : Result ℕ ℕ) → WorkerRow S R K w (AddfdTake y) → (r : ℕ) × Placed K c r (Some y)
    take-is y r =
        let t = r.0 in
        let d : Asked K c w = rw (t.4.1, t.5) at (h.stage t.1.no_end) in
        (d.r, go d.r (install_of K d.r) d.placed (rw (d.mine, d.for_call, l) at r.1))
      where
        go : (x : ℕ) (o : Option (Result ℕ ℕ)) → Placed K c x o → AddfdTake y ≡ take_step o true → Placed K c x (Some y)
        go x o p q = grind arith

    -- no step tells that the call or its task is gone, and no error is unknown
    pub fine : (what : What) → WorkerRow S R K w what → works what ≡ true → (is_lost what ≡ false) × (is_known_error what ≡ true)
    fine (OpenMem p x) r v = let o = opens-own S R K w c legal i l in let t = place-is K (caller K c) i.t i.task_is in let m = name_eq-true (name_of K i.t) (caller K c) t.1 in grind arith
    fine (OpenBase p d x) r v = let o = opens-own S R K w c legal i l in let t = place-is K (caller K c) i.t i.task_is in let m = name_eq-true (name_of K i.t) (caller K c) t.1 in grind arith
    fine (Check x y) r v = let k = clean-now (Check x y) r refl in let q = clean-waiting K c l i.got k in let m = named-it x (grind arith) in grind arith
    fine (AddfdPut q y) r v = let k = clean-now (AddfdPut q y) r refl in let z = clean-waiting K c l i.got k in let m = named-it q.id (grind arith) in grind arith
    fine (Send x b y) r v = let k = clean-now (Send x b y) r refl in let q = clean-waiting K c l i.got k in let m = named-it x (grind arith) in grind arith
    fine (AddfdTake y) r v = let p = take-is y r in grind arith
    fine what r v = (grind arith, grind arith)

    over-more : (what : What) → WorkerRow S R K w what → works what ≡ true → gives_up what ≡ true → settled (ev a what ∷ K) c ≡ true
    unfolding settled
    over-more (Send x b y) r v g = let f = fine (Send x b y) r v in let m = named-it x (grind arith) in grind arith
    over-more (AddfdTake y) r v g = let f = fine (AddfdTake y) r v in let p = take-is y r in grind arith
    over-more what r v g = let f = fine what r v in grind arith

    stage-put : (q : Addfd) (u : Unit {0}) → is_worker a w ≡ true → WorkerRow S R K w (AddfdPut q (Ok u)) → StageOf (ev a (AddfdPut q (Ok u)) ∷ K) c w (Some (Ok u)) (first_some take_in (session K w))
    unfolding queue settled request_of
    stage-put q u m r =
        let e = ev a (AddfdPut q (Ok u)) in
        let k = clean-now (AddfdPut q (Ok u)) r refl in
        let n = named-it q.id (let g = r.0.4.is in grind arith) in
        let t = take-after_put R (session K w) (is-own S R K legal w) in
        let untaken : first_some take_in (session K w) ≡ None = grind arith in
        rw untaken (record {
          r = length K;
          mine = rw m;
          below = omega arith;
          sends = rw event_at-here (let g = r.0.4.is in grind arith);
          for_call = call-here e K ∙ n;
          placed = rw (install-above (e ∷ K) (length K) (omega arith)) (rw (n, eq-eqb c c refl, k.empty), k.unsettled);
        })

    stage-take : (y : Result ℕ ℕ) → WorkerRow S R K w (AddfdTake y) → gives_up (AddfdTake y) ≡ false → StageOf (ev a (AddfdTake y) ∷ K) c w (first_some put_in (session K w)) (Some y)
    stage-take y r g =
        let p = take-is y r in
        let k : Clean K c = grind arith in
        rw r.0.4.1 (calm-clean (ev a (AddfdTake y)) K c (record { no_put = refl; no_install = refl; no_answer = refl }) k)

    -- a step that neither asks nor answers
    stage-stays : (what : What) → is_worker a w ≡ true → WorkerRow S R K w what → works what ≡ true → asks what ≡ false
        → StageOf (ev a what ∷ K) c w (first_some put_in (what ∷ session K w)) (first_some take_in (what ∷ session K w))
    unfolding request_of
    stage-stays what m r v z =
        let p : put_in what ≡ None = grind arith in
        let t : take_in what ≡ None = grind arith in
        let q : request_after (length K) what (request_of K w) ≡ request_of K w = grind arith in
        let calm : Calm K (ev a what) c = record { no_put = grind arith; no_install = grind arith; no_answer = grind arith } in
        rw (p, t) (stage-calm (ev a what) K c w (first_some put_in (session K w)) (first_some take_in (session K w)) calm (rw m q) (h.stage (at-work S R K w what r v).1.no_end))

    stage-more : (what : What) → is_worker a w ≡ true → WorkerRow S R K w what → works what ≡ true → gives_up what ≡ false
        → StageOf (ev a what ∷ K) c w (first_some put_in (what ∷ session K w)) (first_some take_in (what ∷ session K w))
    stage-more (AddfdPut q (Ok u)) m r v g = stage-put q u m r
    stage-more (AddfdPut q (Err x)) m r v g = calm-clean (ev a (AddfdPut q (Err x))) K c (record { no_put = refl; no_install = refl; no_answer = refl }) (clean-now (AddfdPut q (Err x)) r refl)
    stage-more (AddfdTake y) m r v g = stage-take y r g
    stage-more (Send x b y) m r v g = cc
    stage-more what m r v g = stage-stays what m r v (grind arith)

  abbrev IsAtCall : List Event → ℕ → ℕ → Type 0
  IsAtCall K w c = listed K c ≡ true → AtCall K w c

  at-fetch : FetchKept S R IsAtCall
  at-fetch K a w c n legal room q row o idle own l =
      let e = ev a (Recv (Ok n)) in
      let f = fetching K n (oldest_unfetched K) refl row.1.1 in
      let m : f.0 ≡ c = cc (f.4, o) in
      let g = rw m at f.3 in
      let k = unfetched-clean K legal.1 (omega arith) c g in
      let z = unfetched-calm K e c legal.1 (omega arith) (row-of S R K e legal.0) g k in
      record { over = rw own (λ h. cc); stage = rw own (λ h. calm-clean e K c z k) }

  at-work-more : WorkKept S R IsAtCall
  at-work-more K a w c what legal room q row v i s own ih l =
      let was = listed-was (ev a what) K c (is_call-below K c i.call) l in
      let h = ih was in
      let z = (at-work S R K w what row v).1.no_end in
      record {
        over = rw own (λ g. over-more K a w c legal.1 (omega arith) was i h what row v (grind arith));
        stage = rw own (λ g. stage-more K a w c legal.1 (omega arith) was i h what q row v (grind arith));
      }

  at-still : StillKept S R IsAtCall
  unfolding request_of
  at-still K e w c legal room q i s own ih l =
      let row = row-of S R K e legal.0 in
      let h = ih (listed-was e K c (is_call-below K c i.call) l) in
      let p = first_some put_in (session K w) in
      let t = first_some take_in (session K w) in
      record {
        over = rw own (λ g. settled-more e K c (h.over g));
        stage = rw own (λ g. elim (cases_Bool (installs_for K e c)) [
          | inl f ↦ stage-install S e K c w p t same f (installing S R K e.who e.what c legal.1 row f) (h.stage g)
          | inr f ↦ stage-calm e K c w p t (calm-by K e c legal.1 (omega arith) row others f) same (h.stage g)
        ]);
      }
    where
      same : request_of (e ∷ K) w ≡ request_of K w
      same = grind arith

      others : (v : ℕ) → e.who ≡ Worker v → (puts_to K e.what c || answers K e.what c) ≡ true → session_call K v ≡ Some c → ⊥
      others v z y x = let m : v ≡ w = cc (hand-fetcher S R K legal.1 (omega arith) v c x, hand-fetcher S R K legal.1 (omega arith) w c s) in grind arith

  pub at-call : (K : List Event) → IsLegal S R K → length K < 2 ^ 64 → (w c : ℕ) → session_call K w ≡ Some c → listed K c ≡ true → AtCall K w c
  at-call = by-session S R IsAtCall at-fetch at-work-more at-still

  -- a listed call whose session has not asked for a descriptor, and has not given up, waits
  pub waits-now : (K : List Event) (w c : ℕ) → IsLegal S R K → length K < 2 ^ 64 → session_call K w ≡ Some c → listed K c ≡ true → any_of gives_up (session K w) ≡ false
      → first_some put_in (session K w) ≡ None → waiting K c ≡ true
  waits-now K w c legal room s l g p = clean-waiting K c l (in-hand-of S R K w c legal room s).got (rw p at ((at-call K legal room w c s l).stage g))

  -- nor is it answered any more where what it asked for has failed
  waits-anew : (K : List Event) (w c x : ℕ) (p : Option (Result (Unit {0}) ℕ)) (t : Option (Result ℕ ℕ)) → listed K c ≡ true → fetched K c ≡ true
      → (install_at K (request_of K w) ≡ Some (Err x)) ⊎ (t ≡ Some (Err x)) → StageOf K c w p t → waiting K c ≡ true
  waits-anew K w c x (Some (Ok u)) None l f h a = clean-waiting K c l f (elim h [ inl q ↦ let z : install_of K a.r ≡ Some (Err x) = rw a.mine at q in (rw z at a.placed).1 | inr q ↦ cc ])
  waits-anew K w c x p t l f h k = clean-waiting K c l f k

  -- ---- a session leaves its call settled

  -- only a session that has given up lets go
  left-hand : (K : List Event) (a : Actor) (what : What) (w c : ℕ) → IsLegal S R K → length K < 2 ^ 64 → Row S R K a what → session_call K w ≡ Some c
      → (session_call (ev a what ∷ K) w ≡ Some c → ⊥) → any_of gives_up (session K w) ≡ true
  unfolding session_call
  left-hand K a what w c legal room r s n = let i = in-hand-of S R K w c legal room s in grind (arith, no-fetch)

  now-hand : (K : List Event) (a : Actor) (what : What) (w c : ℕ) → IsLegal S R K → length K < 2 ^ 64 → Row S R K a what → fetched K c ≡ false
      → fetcher (ev a what ∷ K) c ≡ Some w → session_call (ev a what ∷ K) w ≡ Some c
  unfolding session_call fetcher
  now-hand K (Worker v) (Recv (Ok n)) w c legal room r f q = let d = fetching K n (oldest_unfetched K) refl r.1.1 in let o = named-fetched S R K n legal room r.1.1 in let y = fetcher-fetched K c w in let z = ids_differ S R K legal room d.0 c in grind arith
  now-hand K a what w c legal room r f q = absurd (both_ways (fetched K c) f (fetcher-fetched K c w (grind arith)))

  settled-step : (K : List Event) (e : Event) (w c : ℕ) → IsLegal S R K → length K < 2 ^ 64 → Row S R K e.who e.what → ((session_call K w ≡ Some c → ⊥) → settled K c ≡ true)
      → listed K c ≡ true → (session_call (e ∷ K) w ≡ Some c → ⊥) → settled (e ∷ K) c ≡ true
  settled-step K e w c legal room r ih l n = settled-more e K c (elim (cases_Bool (is_place (session_call K w) c)) [
    | inl q ↦ let s : session_call K w ≡ Some c = grind arith in (at-call K legal room w c s l).over (left-hand K e.who e.what w c legal room r s n)
    | inr q ↦ ih (λ s. both_ways (is_place (session_call K w) c) q (rw s (eq-eqb c c refl)))
  ])

  let-go : (K : List Event) → IsLegal S R K → length K < 2 ^ 64 → (w c : ℕ) → fetcher K c ≡ Some w → listed K c ≡ true → (session_call K w ≡ Some c → ⊥) → settled K c ≡ true
  let-go = by-few-steps S R (λ K. (w c : ℕ) → fetcher K c ≡ Some w → listed K c ≡ true → (session_call K w ≡ Some c → ⊥) → settled K c ≡ true) (λ w c f l. absurd (omega (arith, listed-below [] c l)))
      (λ K e legal room r ih w c f l n. elim (below_or_last c (length K) (listed-below (e ∷ K) c l)) [
        | inl b ↦ elim (cases_Bool (fetched K c)) [
          | inl g ↦ let was = listed-was e K c b l in settled-step K e w c legal room r (ih w c (sym (fetcher-stays S R K e c legal room r g) ∙ f) was) was n
          | inr g ↦ absurd (n (now-hand K e.who e.what w c legal room r g f))
        ]
        | inr q ↦ absurd (both_ways (fetched (e ∷ K) c) (rw q (fetched-new e K)) (fetcher-fetched (e ∷ K) c w f))
      ])

  pub sessions_settle : (K : List Event) → IsLegal S R K → length K < 2 ^ 64 → SessionsSettle K
  sessions_settle K legal room w c l f = record {
    ended = let-go K legal room w c f l;
    ends = λ s g. (at-call K legal room w c s l).over g;
    goes_on = λ s. waits-now K w c legal room s l;
    refused = λ x s g p. clean-waiting K c l (in-hand-of S R K w c legal room s).got (rw p at ((at-call K legal room w c s l).stage g));
    failed = λ x s g h. waits-anew K w c x (first_some put_in (session K w)) (first_some take_in (session K w)) l (in-hand-of S R K w c legal room s).got h ((at-call K legal room w c s l).stage g);
  }
