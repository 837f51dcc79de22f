-- What this project's own workers take is what came of their request.
-- By induction on the steps since the call was fetched.
use Rattle.mediation.proofs.Common.{[], Act, Actor, AddfdPut, AddfdTake, any_of, ap, arith, Bool, call_at, eq-eqb, Err, ev, Event, false, first_some, gives_up}
use Rattle.mediation.proofs.Common.{if◌then◌else◌, inl, inr, install_at, install_of, installs_for, is_acting, is_first, is_worker, IsLegal, length, List, listed, named, None, not, Notif, Ok, Option}
use Rattle.mediation.proofs.Common.{Plant, put_in, queue, refl, request_after, request_listed, request_of, Result, Rules, session, session_call, skips, Some, sym, System, take_in, take_step, true, What}
use Rattle.mediation.proofs.Common.{ℕ, ◌&&◌, ◌<◌, ◌^◌, ◌∙◌, ◌∷◌, ◌≡◌, ◌⊎◌, reads_of, put_answer, or_parts}
use Rattle.sys_abi.specs.Errnos.{ebadf, enoent}
use Rattle.sys_abi.specs.declared.wire.Addfd.{Addfd}
use Rattle.hist_model.specs.Steps.{asked_call}
use Rattle.history_frames.proofs.Queued.{call-older}
use Rattle.mediation.proofs.Hands.{by-session, FetchKept, InSession, named-own, StillKept, WorkKept, works}
use Rattle.mediation.proofs.Order.{is-own, IsOwn, put-fixed, take-after_put}
use Rattle.mediation.proofs.Common.{addfd_of}
use Rattle.mediation.proofs.Phases.{at-call, StageOf}
use Rattle.mediation.proofs.Rows.{AtWork, WorkerRow}
use Rattle.broker_verdict.proofs.LegalSeats.{effect-same}
use Rattle.broker_verdict.specs.Seats.{effect_after, effect_of}

-- a put that was answered ok names a call that is listed
put-found : (S : System) (K : List Event) (q : Addfd) (source : Bool) (o : Option ℕ) (u : Unit {0}) → ◌≡◌ {A = Result (Unit {0}) ℕ} (Ok u) (if not source then Err ebadf else put_answer S K q o) → (c : ℕ) × (o ≡ Some c)
put-found S K q true None u r = absurd (cc r)
put-found S K q true (Some c) u r = (c, refl)
put-found S K q false o u r = absurd (cc r)

-- the answer of a take is the installation's, or ends the session
take-found : (o : Option (Result ℕ ℕ)) (on : Bool) (y : Result ℕ ℕ) → AddfdTake y ≡ take_step o on → (o ≡ Some y) ⊎ (y ≡ Err enoent)
take-found (Some z) on y h = let q : y ≡ z = cc in inl (ap (λ (x : Result ℕ ℕ). Some x) (sym q))
take-found None true y h = absurd (cc h)
take-found None false y h = inr cc

module _ (S : System) (R : Rules) where
  -- the request that the worker has put is the seat's effect, and was put for its call
  abbrev Asked : List Event → ℕ → ℕ → Type 0
  Asked K w c = (u : Unit {0}) → first_some put_in (session K w) ≡ Some (Ok u) → first_some take_in (session K w) ≡ None
      → (p : ℕ) × (request_of K w ≡ Some p) × (effect_of K w ≡ Some p) × (call_at K p ≡ Some c) × (p < length K)

  asked-fetch : FetchKept S R Asked
  asked-fetch K a w c n legal room q row o idle own u h t = absurd (cc (rw own at h))

  mine-request : (K : List Event) (a : Actor) (w : ℕ) (what : What) → is_worker a w ≡ true → request_of (ev a what ∷ K) w ≡ request_after (length K) what (request_of K w)
  unfolding request_of
  mine-request K a w what q = rw q refl

  mine-effect : (K : List Event) (a : Actor) (w : ℕ) (what : What) → is_worker a w ≡ true → effect_of (ev a what ∷ K) w ≡ effect_after (length K) what (effect_of K w)
  unfolding effect_of
  mine-effect K a w what q = rw q refl

  request-skip : (place : ℕ) (what : What) (r : Option ℕ) → skips what ≡ true → request_after place what r ≡ r
  request-skip place what r h = grind arith

  still-request : (e : Event) (K : List Event) (w : ℕ) → (is_worker e.who w && not (skips e.what)) ≡ false → request_of (e ∷ K) w ≡ request_of K w
  unfolding request_of
  still-request e K w q = grind (arith, request-skip)

  asked-later : (e : Event) (K : List Event) (w c : ℕ) → request_of (e ∷ K) w ≡ request_of K w → effect_of (e ∷ K) w ≡ effect_of K w
      → (p : ℕ) × (request_of K w ≡ Some p) × (effect_of K w ≡ Some p) × (call_at K p ≡ Some c) × (p < length K)
      → (p : ℕ) × (request_of (e ∷ K) w ≡ Some p) × (effect_of (e ∷ K) w ≡ Some p) × (call_at (e ∷ K) p ≡ Some c) × (p < length (e ∷ K))
  asked-later e K w c r f a = (a.0, r ∙ a.1, f ∙ a.2, call-older e K a.0 a.4 ∙ a.3, omega (arith, a.4))

  call-here : (e : Event) (K : List Event) → call_at (e ∷ K) (length K) ≡ asked_call K e.what
  unfolding call_at
  call-here e K = rw (eq-eqb (length K) (length K) refl) refl

  -- a step that asks for nothing and takes nothing
  abbrev is_plain : What → Bool
  is_plain (Act q limit a) = false
  is_plain (Plant x b limit a) = false
  is_plain (AddfdPut q a) = false
  is_plain (AddfdTake a) = false
  is_plain what = works what

  plain-put : (what : What) (own : List What) → is_plain what ≡ true → first_some put_in (what ∷ own) ≡ first_some put_in own
  plain-put what own h = grind arith

  plain-take : (what : What) (own : List What) → is_plain what ≡ true → first_some take_in (what ∷ own) ≡ first_some take_in own
  plain-take what own h = grind arith

  plain-request : (place : ℕ) (what : What) (r : Option ℕ) → is_plain what ≡ true → request_after place what r ≡ r
  plain-request place what r h = grind arith

  plain-effect : (place : ℕ) (what : What) (r : Option ℕ) → is_plain what ≡ true → effect_after place what r ≡ r
  plain-effect place what r h = grind arith

  asked-plain : (K : List Event) (a : Actor) (w c : ℕ) (what : What) → is_plain what ≡ true → is_worker a w ≡ true → session (ev a what ∷ K) w ≡ what ∷ session K w → Asked K w c → Asked (ev a what ∷ K) w c
  asked-plain K a w c what h q own ih u p t =
      asked-later (ev a what) K w c (mine-request K a w what q ∙ plain-request (length K) what (request_of K w) h) (mine-effect K a w what q ∙ plain-effect (length K) what (effect_of K w) h)
      (ih u (sym (plain-put what (session K w) h) ∙ (rw own at p)) (sym (plain-take what (session K w) h) ∙ (rw own at t)))

  -- after a put that was accepted nothing is done in the tree or the memory
  put-no-act : (K : List Event) (w : ℕ) (n : Notif) (u : Unit {0}) → IsLegal S R K → AtWork (session K w) n → first_some put_in (session K w) ≡ Some (Ok u) → is_acting (R.decide n (reads_of (session K w))) ≡ true → ⊥
  put-no-act K w n u legal work h g = let f = (put-fixed R (session K w) (is-own S R K legal w) n (Ok u) work.notif_is h).decided in cc (rw f.3 at g)

  asked-put : (K : List Event) (a : Actor) (w c : ℕ) (q : Addfd) (v : Unit {0}) → IsLegal S R K → length K < 2 ^ 64 → is_worker a w ≡ true → WorkerRow S R K w (AddfdPut q (Ok v)) → (i : InSession K w c)
      → (p : ℕ) × (request_of (ev a (AddfdPut q (Ok v)) ∷ K) w ≡ Some p) × (effect_of (ev a (AddfdPut q (Ok v)) ∷ K) w ≡ Some p) × (call_at (ev a (AddfdPut q (Ok v)) ∷ K) p ≡ Some c) × (p < length (ev a (AddfdPut q (Ok v)) ∷ K))
  asked-put K a w c q v legal room m row i =
      let e = ev a (AddfdPut q (Ok v)) in
      let f = put-found S K q (S.source q.srcfd) (named K q.id) v row.1 in
      let y : row.0.0 ≡ i.n = cc (row.0.1.notif_is, i.notif_is) in
      let z : q.id ≡ i.n.id = id-of row.0.0.id row.0.4.src row.0.4.place row.0.4.flags q row.0.4.is ∙ ap (λ (n : Notif). n.id) y in
      let o = named-own S R K w c legal room i in
      (length K, mine-request K a w (AddfdPut q (Ok v)) m, mine-effect K a w (AddfdPut q (Ok v)) m, call-here e K ∙ (ap (named K) z ∙ own-some f.0 (listed K c) o (sym (ap (named K) z) ∙ f.1)), omega arith)
    where
      id-of : (x src : ℕ) (at : Option ℕ) (flags : ℕ) (q : Addfd) → q ≡ addfd_of x src at flags → q.id ≡ x
      id-of x src None flags q h = ap (λ (r : Addfd). r.id) h
      id-of x src (Some at) flags q h = ap (λ (r : Addfd). r.id) h

      own-some : (d : ℕ) (b : Bool) → named K i.n.id ≡ (if b then Some c else None) → named K i.n.id ≡ Some d → named K i.n.id ≡ Some c
      own-some d true h g = h
      own-some d false h g = cc

  asked-work : WorkKept S R Asked
  asked-work K a w c (Act x limit y) legal room q row v i s own ih u p t = absurd (put-no-act K w row.0.0 u legal.1 row.0.1 (rw own at p) (ap is_acting row.0.4))
  asked-work K a w c (Plant x b limit y) legal room q row v i s own ih u p t = absurd (put-no-act K w row.0.0 u legal.1 row.0.1 (rw own at p) (ap is_acting row.0.4))
  asked-work K a w c (AddfdPut x (Ok y)) legal room q row v i s own ih u p t = asked-put K a w c x y legal.1 (omega arith) q row i
  asked-work K a w c (AddfdPut x (Err y)) legal room q row v i s own ih u p t = absurd (cc (rw own at p))
  asked-work K a w c (AddfdTake y) legal room q row v i s own ih u p t = absurd (cc (rw own at t))
  asked-work K a w c what legal room q row v i s own ih u p t = asked-plain K a w c what v q own ih u p t

  asked-still : StillKept S R Asked
  asked-still K e w c legal room q i s own ih u p t = asked-later e K w c (still-request e K w q) (effect-same S R e K w q) (ih u (rw own at p) (rw own at t))

  asked : (K : List Event) → IsLegal S R K → length K < 2 ^ 64 → (w c : ℕ) → session_call K w ≡ Some c → Asked K w c
  asked = by-session S R Asked asked-fetch asked-work asked-still

  -- ---- what was taken

  abbrev Taken : List Event → ℕ → ℕ → Type 0
  Taken K w c = (t : Result ℕ ℕ) → first_some take_in (session K w) ≡ Some t → any_of gives_up (session K w) ≡ false
      → (p : ℕ) × (effect_of K w ≡ Some p) × (install_of K p ≡ Some t) × (call_at K p ≡ Some c) × (p < length K)

  taken-fetch : FetchKept S R Taken
  taken-fetch K a w c n legal room q row o idle own t h g = absurd (cc (rw own at h))

  -- no other installation is the request's
  clean-stage : (K : List Event) (c w : ℕ) (put : Option (Result (Unit {0}) ℕ)) (t : Result ℕ ℕ) → StageOf S R K c w put (Some t) → queue K c ≡ []
  clean-stage K c w (Some (Ok u)) t k = k.empty
  clean-stage K c w (Some (Err e)) t k = k.empty
  clean-stage K c w None t k = k.empty

  not-first : (b : Bool) (r : ℕ) (qs : List ℕ) → (b ≡ true → qs ≡ []) → (b && is_first qs r) ≡ false
  not-first true r qs h = rw (h refl) refl
  not-first false r qs h = refl

  installs-listed : (K : List Event) (e : Event) (c : ℕ) → installs_for K e c ≡ true → listed K c ≡ true
  installs-listed K e c h = grind arith

  stays-installed : (e : Event) (K : List Event) (w c p : ℕ) (t : Result ℕ ℕ) → IsLegal S R K → length K < 2 ^ 64 → session_call K w ≡ Some c → first_some take_in (session K w) ≡ Some t
      → any_of gives_up (session K w) ≡ false → call_at K p ≡ Some c → install_of K p ≡ Some t → install_of (e ∷ K) p ≡ Some t
  unfolding install_of
  stays-installed e K w c p t legal room s h g f z =
      let n = not-first (installs_for K e c) p (queue K c) (λ b.
      let l = installs-listed K e c b in
      let k = (at-call S R K legal room w c s l).stage g in
      clean-stage K c w (first_some put_in (session K w)) t (rw h at k)) in
      rw (f, n) z

  taken-later : (e : Event) (K : List Event) (w c : ℕ) (t : Result ℕ ℕ) → IsLegal S R K → length K < 2 ^ 64 → session_call K w ≡ Some c → effect_of (e ∷ K) w ≡ effect_of K w
      → first_some take_in (session K w) ≡ Some t → any_of gives_up (session K w) ≡ false → Taken K w c
      → (p : ℕ) × (effect_of (e ∷ K) w ≡ Some p) × (install_of (e ∷ K) p ≡ Some t) × (call_at (e ∷ K) p ≡ Some c) × (p < length (e ∷ K))
  taken-later e K w c t legal room s f h g ih =
      let k = ih t h g in (k.0, f ∙ k.1, stays-installed e K w c k.0 t legal room s h g k.3 k.2, call-older e K k.0 k.4 ∙ k.3, omega (arith, k.4))

  taken-here : (K : List Event) (a : Actor) (w c : ℕ) (y : Result ℕ ℕ) → IsLegal S R (ev a (AddfdTake y) ∷ K) → length (ev a (AddfdTake y) ∷ K) < 2 ^ 64 → is_worker a w ≡ true → WorkerRow S R K w (AddfdTake y)
      → session_call K w ≡ Some c → gives_up (AddfdTake y) ≡ false
      → (p : ℕ) × (effect_of (ev a (AddfdTake y) ∷ K) w ≡ Some p) × (install_of (ev a (AddfdTake y) ∷ K) p ≡ Some y) × (call_at (ev a (AddfdTake y) ∷ K) p ≡ Some c) × (p < length (ev a (AddfdTake y) ∷ K))
  unfolding install_of
  taken-here K a w c y legal room q row s g =
      let e = ev a (AddfdTake y) in
      let k = asked K legal.1 (omega arith) w c s row.0.4.0 row.0.4.1 row.0.5 in
      let z : install_of K k.0 ≡ Some y = elim (take-found (install_at K (request_of K w)) (request_listed K (request_of K w)) y row.1) [ inl h ↦ rw k.1 at h | inr h ↦ absurd (cc (rw h at g)) ] in
      let f : effect_of (e ∷ K) w ≡ effect_of K w = mine-effect K a w (AddfdTake y) q in
      (k.0, f ∙ k.2, rw k.3 z, call-older e K k.0 k.4 ∙ k.3, omega (arith, k.4))

  taken-work : WorkKept S R Taken
  taken-work K a w c (AddfdTake y) legal room q row v i s own ih t h g =
      let m : y ≡ t = cc (rw own at h) in
      let u = or_parts (gives_up (AddfdTake y)) (any_of gives_up (session K w)) (rw own at g) in
      rw (← m) (taken-here K a w c y legal room q row s u.0)
  taken-work K a w c (AddfdPut x y) legal room q row v i s own ih t h g = absurd (no-put-yet (session K w) t (is-own S R K legal.1 w) (rw own at h) row.0.5)
    where
      no-put-yet : (own : List What) (t : Result ℕ ℕ) → IsOwn R own → first_some take_in own ≡ Some t → first_some put_in own ≡ None → ⊥
      no-put-yet own t mine h p = cc (take-after_put R own mine t h, p)
  taken-work K a w c (Act x limit y) legal room q row v i s own ih t h g =
      absurd (put-no-act K w row.0.0 tt legal.1 row.0.1 (take-after_put R (session K w) (is-own S R K legal.1 w) t (rw own at h)) (ap is_acting row.0.4))
  taken-work K a w c (Plant x b limit y) legal room q row v i s own ih t h g =
      absurd (put-no-act K w row.0.0 tt legal.1 row.0.1 (take-after_put R (session K w) (is-own S R K legal.1 w) t (rw own at h)) (ap is_acting row.0.4))
  taken-work K a w c what legal room q row v i s own ih t h g =
      taken-later (ev a what) K w c t legal.1 (omega arith) s (mine-effect K a w what q ∙ plain-effect (length K) what (effect_of K w) v) (sym (plain-take what (session K w) v) ∙ (rw own at h))
      (or_parts (gives_up what) (any_of gives_up (session K w)) (rw own at g)).1 ih

  taken-still : StillKept S R Taken
  taken-still K e w c legal room q i s own ih t h g = taken-later e K w c t legal.1 (omega arith) s (effect-same S R e K w q) (rw own at h) (rw own at g) ih

  pub taken : (K : List Event) → IsLegal S R K → length K < 2 ^ 64 → (w c : ℕ) → session_call K w ≡ Some c → Taken K w c
  taken = by-session S R Taken taken-fetch taken-work taken-still
