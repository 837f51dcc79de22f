-- What a worker holds when a deed of its session is due: what it uses is open, and what it takes was asked for.
-- By induction on a legal history, and since a session that asked for a descriptor goes on with nothing but the take.
use Rattle.mediation.proofs.Common.{[], Addfd, AddfdPut, addfd_of, and_parts, arith, cases_Bool, Deed, deed, deed_step, Event, false, first_some, inl, inr, is_worker, IsLegal, joined, length, List}
use Rattle.mediation.proofs.Common.{mem, None, not, not-true, Notif, Ok, Option, put_in, refl, request_after, request_of, Rules, session, session_call, skips}
use Rattle.mediation.proofs.Common.{Some, step, System, take_in, true, What, Worker, worker_step, ℕ, ◌&&◌, ◌<◌, ◌^◌, ◌∷◌, ◌≡◌}
use Rattle.hist_model.specs.declared.policy.Cap.{Cap}
use Rattle.listener.specs.Puts.{is_known}
use Rattle.mediation.proofs.Rows.{AtWork, WorkerRow, step-row, by-few-steps}
use Rattle.mediation.proofs.Hands.{hand, in-hand, worker-row}
use Rattle.mediation.proofs.Order.{any-number, Checked, Follows, IsInjection, IsOwn, is-own, ordered, put-fixed, take-after_put, Used}
use Rattle.mediation.proofs.Handles.{steady}

-- ---- a session by itself, between its put and its take

-- it put a descriptor, and has not taken the answer
abbrev Asks : List What → Type 0
Asks own = (first_some put_in own ≡ Some (Ok tt)) × (first_some take_in own ≡ None)

-- it goes on with nothing but the take
takes-next : (R : Rules) (own : List What) (a : What) (n : Notif) → Follows R own a → Asks own → AtWork own n → Used R IsInjection own n → Checked R own → take_in a ≡ None → ⊥
takes-next R own a n f asks work used order t = grind (arith, any-number)

asks-more : (R : Rules) (own : List What) (a : What) → IsOwn R (a ∷ own) → (Asks own → (n : Notif) × AtWork own n) → Asks (a ∷ own) → (n : Notif) × AtWork (a ∷ own) n
asks-more R own (AddfdPut q (Ok u)) i ih asks = grind arith
asks-more R own a i ih asks =
    let k : Asks own = grind arith in
    let w = ih k in
    absurd (takes-next R own a w.0 i.0 k w.1 (put-fixed R own i.1 w.0 (Ok tt) w.1.notif_is k.0) (ordered R own i.1) (grind arith))

-- so it is still at work
asks-at_work : (R : Rules) (own : List What) → IsOwn R own → Asks own → (n : Notif) × AtWork own n
asks-at_work R [] i asks = cc
asks-at_work R (a ∷ own) i asks = asks-more R own a i (asks-at_work R own i.1) asks

-- ---- what a worker has asked for, by its session's steps

-- a request is there just while the session asks
abbrev IsAsked : List What → Option ℕ → Type 0
IsAsked own (Some r) = Asks own
IsAsked own None = Asks own → ⊥

module _ (S : System) (R : Rules) where
  held-more : (K : List Event) (w : ℕ) (what : What) → WorkerRow S R K w what → skips what ≡ false → IsOwn R (session K w)
      → IsAsked (session K w) (request_of K w) → IsAsked (joined what (session K w)) (request_after (length K) what (request_of K w))
  held-more K w what r s own a = let at_work = asks-at_work R (session K w) own in let later = take-after_put R (session K w) own in grind arith

  held : (K : List Event) → IsLegal S R K → length K < 2 ^ 64 → (w : ℕ) → IsAsked (session K w) (request_of K w)
  unfolding session request_of
  held = by-few-steps S R (λ K. (w : ℕ) → IsAsked (session K w) (request_of K w)) (λ w a. cc) (λ K e legal room r ih w.
      elim (cases_Bool (is_worker e.who w && not (skips e.what))) [
        | inl q ↦
            let p = and_parts (is_worker e.who w) (not (skips e.what)) q in
            rw (q, p.0) (held-more K w e.what (worker-row S R K e.who e.what w r p.0) (not-true (skips e.what) p.1) (is-own S R K legal w) (ih w))
        | inr q ↦ rw q (grind arith)
      ])

-- ---- what holds where a deed is due

-- the requests of a policy have no flags but SETFD and SEND
has-known : (x src : ℕ) (at : Option ℕ) (flags : ℕ) → is_known (addfd_of x src at flags) ≡ true
has-known x src None flags = refl
has-known x src (Some at) flags = refl

module _ (S : System) (R : Rules) (K : List Event) (w : ℕ) where
  -- what its step would tell
  due : (d : Deed) → deed R (session K w) ≡ d → WorkerRow S R K w (deed_step S K w d)
  unfolding step worker_step
  due d h = rw h at (step-row S R K (Worker w) refl)

  -- bytes are planted where a memory is open
  pub plants-there : (a : ℕ) (bytes : List ℕ) (limit : Option Cap) → IsLegal S R K → length K < 2 ^ 64 → deed R (session K w) ≡ Deed.Plant a bytes limit → mem K w ≡ None → ⊥
  plants-there a bytes limit legal room h none =
      let t = (due (Deed.Plant a bytes limit) h).0 in
      let c = in-hand K w (session_call K w) t.0 t.1 (hand S R K legal room w) in
      let m = (steady S R K legal room w c.0 c.1).opened t.2.mem t.1.no_end in
      cc

  -- a descriptor is asked for where nothing is asked for
  pub asks-free : (a : Addfd) → IsLegal S R K → length K < 2 ^ 64 → deed R (session K w) ≡ Deed.AddfdPut a → request_of K w ≡ None
  asks-free a legal room h = let t = (due (Deed.AddfdPut a) h).0 in let k = held S R K legal room w in grind arith

  -- with known flags
  pub asks-known : (a : Addfd) → deed R (session K w) ≡ Deed.AddfdPut a → is_known a ≡ true
  asks-known a h = let q = (due (Deed.AddfdPut a) h).0.4 in rw q.is (has-known _ q.src q.place q.flags)

  -- an answer is taken where a descriptor was asked for
  pub takes-asked : IsLegal S R K → length K < 2 ^ 64 → deed R (session K w) ≡ Deed.AddfdTake → request_of K w ≡ None → ⊥
  takes-asked legal room h none = let k = held S R K legal room w in let t = (rw none at (due Deed.AddfdTake h)).0 in grind arith
