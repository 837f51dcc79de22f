-- A session that has put a request, and hasn't taken its answer, put it for its own call.
-- By induction on the steps since its call was received.
use Rattle.std.proofs.Common.{◌≡◌, ℕ, ◌<◌, ◌^◌, List, ◌∷◌, length, Some, None, Ok, ◌∙◌, arith}
use Rattle.hist_model.specs.Calls.{named}
use Rattle.hist_model.specs.Look.{ev}
use Rattle.hist_model.specs.Sessions.{Rules, first_some, put_in, session, take_in}
use Rattle.hist_model.specs.Steps.{IsLegal, call_at, request_of, session_call}
use Rattle.hist_model.specs.Systems.{System}
use Rattle.hist_model.specs.declared.event.Event.{Event}
use Rattle.hist_model.specs.declared.event.What.TheVariants.{AddfdPut}
use Rattle.sys_abi.specs.declared.wire.Addfd.{Addfd}
use Rattle.history_frames.proofs.Queued.{call-here, call-older, request-below, request-more}
use Rattle.mediation.proofs.Hands.{FetchKept, InSession, StillKept, WorkKept, by-session, named-own}
use Rattle.mediation.proofs.Rows.{WorkerRow}

module _ (S : System) (R : Rules) where
  abbrev IsPut : List Event → ℕ → ℕ → Type 0
  IsPut K w c = (u : Unit {0}) → first_some put_in (session K w) ≡ Some (Ok u) → first_some take_in (session K w) ≡ None → (r : ℕ) × (request_of K w ≡ Some r) × (call_at K r ≡ Some c)

  put_later : (e : Event) (K : List Event) (w c : ℕ) → request_of (e ∷ K) w ≡ request_of K w → (r : ℕ) × (request_of K w ≡ Some r) × (call_at K r ≡ Some c)
      → (r : ℕ) × (request_of (e ∷ K) w ≡ Some r) × (call_at (e ∷ K) r ≡ Some c)
  put_later e K w c q p = (p.0, q ∙ p.1, call-older e K p.0 (request-below K w p.0 p.1) ∙ p.2)

  put_fetch : FetchKept S R IsPut
  put_fetch K a w c n legal room q row o idle own u p = absurd (cc (rw own at p))

  put_names : (K : List Event) (w c : ℕ) (q : Addfd) (u : Unit {0}) → IsLegal S R K → length K < 2 ^ 64 → (i : InSession K w c) → WorkerRow S R K w (AddfdPut q (Ok u)) → named K q.id ≡ Some c
  put_names K w c q u legal room i r = let o = named-own S R K w c legal room i in let m : q.id ≡ i.n.id = (let g = r.0.4.is in grind arith) in grind arith

  put_work : WorkKept S R IsPut
  put_work K a w c (AddfdPut q (Ok v)) legal room z row h i s own ih u p t =
      let e = ev a (AddfdPut q (Ok v)) in
      (length K, request-more e K w z, call-here e K ∙ put_names K w c q v legal.1 (omega arith) i row)
  put_work K a w c what legal room z row h i s own ih u p t = grind (arith, put_later, request-more)

  put_still : StillKept S R IsPut
  unfolding request_of
  put_still K e w c legal room q i s own ih u p t = put_later e K w c (grind arith) (ih u (rw own at p) (rw own at t))

  pub put_for : (K : List Event) → IsLegal S R K → length K < 2 ^ 64 → (w c : ℕ) → session_call K w ≡ Some c → IsPut K w c
  put_for = by-session S R IsPut put_fetch put_work put_still
