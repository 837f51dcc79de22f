-- What a worker is told of its session's call is so: by its checks, its requests for a descriptor, and what it takes.
-- By the row of the step, and by how far the call is. What any broker is told stands among the clauses of the kernel.
use Rattle.mediation.proofs.Common.{Addfd, AddfdPut, AddfdTake, and_parts, ap, arith, Bool, call_at, cases_Bool, Check, check_answer, ChecksOwn, Each, Err, ev, Event, false}
use Rattle.mediation.proofs.Common.{first_some, if◌then◌else◌, inl, inr, install_of, IsLegal, length, List, list_any, listed, named, None, Notif}
use Rattle.mediation.proofs.Common.{Ok, Option, Policy, put_in, PutsOpen, refl}
use Rattle.mediation.proofs.Common.{request_of, Result, Rules, rules_of, Script, session, session_call, Some, sym, System, system_of, take_in, take_step, TakesInstalled, true, waiting}
use Rattle.mediation.proofs.Common.{Worker, ℕ, ◌<◌, ◌==◌, ◌^◌, ◌∙◌, ◌∷◌, ◌≡◌, ◌⊎◌}
use Rattle.history_frames.proofs.Queued.{call-here, call-older, request-below, request-more}
use Rattle.mediation.proofs.Rows.{WorkerRow, each}
use Rattle.hist_model.specs.Mediated.{IsGoneRequest}
use Rattle.mediation.proofs.Hands.{InSession, in-hand, hand, FetchKept, WorkKept, StillKept, by-session, named-own}
use Rattle.mediation.proofs.Handles.{check-listed}
use Rattle.mediation.proofs.Phases.{fine, at-call}
use Rattle.sys_abi.specs.Errnos.{enoent, ebadf}

module _ (S : System) (R : Rules) where
  -- ---- a check finds its session's call exactly where that is listed

  pub checks_own : (K : List Event) → IsLegal S R K → length K < 2 ^ 64 → Each ChecksOwn K
  checks_own = each S R ChecksOwn (λ K e legal room row w x a who what.
      let r : WorkerRow S R K w (Check x a) = rw (who, what) at row in
      let j = in-hand K w (session_call K w) r.0.0 r.0.1 (hand S R K legal room w) in
      let m : x ≡ j.2.n.id = r.0.3 ∙ ap (λ (n : Notif). n.id) (sym j.3) in
      let f = found K w j.0 x a legal room j.1 j.2 m r in
      record { call = j.0; of_call = j.1; id_is = m ∙ j.2.id_is; answer = f.0; waits = f.1 })
    where
      found : (K : List Event) (w c x : ℕ) (a : Result (Unit {0}) ℕ) → IsLegal S R K → length K < 2 ^ 64 → session_call K w ≡ Some c → (i : InSession K w c) → x ≡ i.n.id → WorkerRow S R K w (Check x a)
          → (a ≡ (if listed K c then Ok tt else Err enoent)) × (listed K c ≡ true → waiting K c ≡ true)
      found K w c x (Ok u) legal room s i m r = let v = check-listed S R K w c x u legal room i r in let l = (and_parts (listed K c) _ v).0 in (rw l refl, λ _. v)
      found K w c x (Err e) legal room s i m r = elim (cases_Bool (listed K c)) [
        | inl l ↦ let f = fine S R K (Worker w) w c legal room l i (at-call S R K legal room w c s l) (Check x (Err e)) r refl in absurd (grind arith)
        | inr l ↦
            let o : named K x ≡ None = ap (named K) m ∙ (rw l at (named-own S R K w c legal room i)) in
            (r.1 ∙ (ap (check_answer K) o ∙ rw l refl), λ h. cc (h, l))
      ]

  -- ---- a take answers what the installation of its session's request did

  -- the request that a session has put and whose answer it has not taken
  abbrev IsPut : List Event → ℕ → ℕ → Type 0
  IsPut K w c = (u : Unit {0}) → first_some put_in (session K w) ≡ Some (Ok u) → first_some take_in (session K w) ≡ None → (r : ℕ) × (request_of K w ≡ Some r) × (call_at K r ≡ Some c)

  put-later : (e : Event) (K : List Event) (w c : ℕ) → request_of (e ∷ K) w ≡ request_of K w → (r : ℕ) × (request_of K w ≡ Some r) × (call_at K r ≡ Some c)
      → (r : ℕ) × (request_of (e ∷ K) w ≡ Some r) × (call_at (e ∷ K) r ≡ Some c)
  put-later e K w c q p = (p.0, q ∙ p.1, call-older e K p.0 (request-below K w p.0 p.1) ∙ p.2)

  put-fetch : FetchKept S R IsPut
  put-fetch K a w c n legal room q row o idle own u p = absurd (cc (rw own at p))

  -- a request that was taken names its session's call
  put-names : (K : List Event) (w c : ℕ) (q : Addfd) (u : Unit {0}) → IsLegal S R K → length K < 2 ^ 64 → (i : InSession K w c) → WorkerRow S R K w (AddfdPut q (Ok u)) → named K q.id ≡ Some c
  put-names K w c q u legal room i r = let o = named-own S R K w c legal room i in let m : q.id ≡ i.n.id = (let g = r.0.4.is in grind arith) in grind arith

  put-work : WorkKept S R IsPut
  put-work K a w c (AddfdPut q (Ok v)) legal room z row h i s own ih u p t =
      let e = ev a (AddfdPut q (Ok v)) in
      (length K, request-more e K w z, call-here e K ∙ put-names K w c q v legal.1 (omega arith) i row)
  put-work K a w c what legal room z row h i s own ih u p t = grind (arith, put-later, request-more)

  put-still : StillKept S R IsPut
  unfolding request_of
  put-still K e w c legal room q i s own ih u p t = put-later e K w c (grind arith) (ih u (rw own at p) (rw own at t))

  put-for : (K : List Event) → IsLegal S R K → length K < 2 ^ 64 → (w c : ℕ) → session_call K w ≡ Some c → IsPut K w c
  put-for = by-session S R IsPut put-fetch put-work put-still

  taken : (o : Option (Result ℕ ℕ)) (on : Bool) (a : Result ℕ ℕ) → AddfdTake a ≡ take_step o on → (o ≡ Some a) ⊎ ((o ≡ None) × (on ≡ false) × (a ≡ Err enoent))
  taken o on a q = grind arith

  taken-of : (K : List Event) (c r : ℕ) (a : Result ℕ ℕ) → AddfdTake a ≡ take_step (install_of K r) (listed K c) → (install_of K r ≡ Some a) ⊎ (IsGoneRequest K c r × (a ≡ Err enoent))
  taken-of K c r a q = elim (taken (install_of K r) (listed K c) a q) [ inl s ↦ inl s | inr n ↦ inr (record { not_installed = n.0; not_listed = n.1 }, n.2) ]

  pub takes_installed : (K : List Event) → IsLegal S R K → length K < 2 ^ 64 → Each TakesInstalled K
  takes_installed = each S R TakesInstalled (λ K e legal room row w a who what.
      let r : WorkerRow S R K w (AddfdTake a) = rw (who, what) at row in
      let t = r.0 in
      let j = in-hand K w (session_call K w) t.0 t.1 (hand S R K legal room w) in
      let p = put-for K legal room w j.0 j.1 t.4.0 t.4.1 t.5 in
      record { call = j.0; request = p.0; of_call = j.1; put_by = p.1; for_call = p.2; answer = taken-of K j.0 p.0 a (rw (p.1, p.2) at r.1) })

-- ---- a request for a descriptor is answered by whether the broker has the file, and by whether the call is listed

module _ (P : Policy) (S : Script) where
  pub puts_open : (K : List Event) → IsLegal (system_of S) (rules_of P S.figures) K → length K < 2 ^ 64 → Each (PutsOpen S) K
  puts_open = each (system_of S) (rules_of P S.figures) (PutsOpen S) (λ K e legal room row w q a who what.
      let T = system_of S in
      let R = rules_of P S.figures in
      let r : WorkerRow T R K w (AddfdPut q a) = rw (who, what) at row in
      let j = in-hand K w (session_call K w) r.0.0 r.0.1 (hand T R K legal room w) in
      record { call = j.0; of_call = j.1; answer = answered K w j.0 q a legal room j.1 j.2 r })
    where
      answered : (K : List Event) (w c : ℕ) (q : Addfd) (a : Result (Unit {0}) ℕ) → IsLegal (system_of S) (rules_of P S.figures) K → length K < 2 ^ 64 → session_call K w ≡ Some c → (i : InSession K w c)
          → WorkerRow (system_of S) (rules_of P S.figures) K w (AddfdPut q a) → a ≡ (if list_any (λ m. m == q.srcfd) S.broker then (if listed K c then Ok tt else Err enoent) else Err ebadf)
      answered K w c q a legal room s i r =
          let o = named-own (system_of S) (rules_of P S.figures) K w c legal room i in
          let m : q.id ≡ i.n.id = (let g = r.0.4.is in grind arith) in
          let f = λ (l : listed K c ≡ true). fine (system_of S) (rules_of P S.figures) K (Worker w) w c legal room l i (at-call (system_of S) (rules_of P S.figures) K legal room w c s l) (AddfdPut q a) r refl in
          grind arith
