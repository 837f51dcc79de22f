-- Requests for descriptors after an event: whose they are, and for which call they were put.
-- By induction on the events: a request is the event that put it.
use Rattle.std.proofs.Common.{◌≡◌, ◌⊎◌, inl, inr, ℕ, ◌<◌, ◌≤◌, true, false, List, [], ◌∷◌, length, Option, Some, None, refl, sym, ◌∙◌, arith}
use Rattle.std.specs.Prelude.{Ok}
use Rattle.std.proofs.lemmas.Bool.{cases_Bool, eq-eqb, eqb-true, ne_eqb}
use Rattle.hist_model.specs.Look.{event_at, is_worker}
use Rattle.hist_model.specs.Steps.{request_of, request_after, call_at, asked_call}
use Rattle.hist_model.specs.declared.event.Event.{Event}
use Rattle.hist_model.specs.declared.event.Actor.{Actor}
use Rattle.hist_model.specs.declared.event.Actor.TheVariants.{Worker}
use Rattle.hist_model.specs.declared.event.What.{What}
use Rattle.hist_model.specs.declared.event.What.TheVariants.{AddfdPut}
use Rattle.hist_model.proofs.Look.{event_at-here, event_at-older, event_at-below}

-- ---- whose a request is

pub worker-is : (a : Actor) (w : ℕ) → is_worker a w ≡ true → a ≡ Worker w
worker-is (Worker v) w h = let q : v ≡ w = eqb-true v w h in cc
worker-is a w h = cc

pub request-same : (e : Event) (K : List Event) (w : ℕ) → is_worker e.who w ≡ false → request_of (e ∷ K) w ≡ request_of K w
unfolding request_of
request-same e K w h = rw h

pub request-more : (e : Event) (K : List Event) (w : ℕ) → is_worker e.who w ≡ true → request_of (e ∷ K) w ≡ request_after (length K) e.what (request_of K w)
unfolding request_of
request-more e K w h = rw h

request-cases : (place : ℕ) (w : What) (o : Option ℕ) (r : ℕ) → request_after place w o ≡ Some r → (place ≡ r) ⊎ (o ≡ Some r)
request-cases place (AddfdPut a (Ok u)) o r h = inl cc
request-cases place w o r h = grind arith

-- a worker's request is a step of its own
pub request-own : (K : List Event) (w r : ℕ) → request_of K w ≡ Some r → (e : Event) × (event_at K r ≡ Some e) × (e.who ≡ Worker w)
request-own [] w r h = unfold request_of in cc
request-own (e ∷ K) w r h = elim (cases_Bool (is_worker e.who w)) [
  | inl q ↦ elim (request-cases (length K) e.what (request_of K w) r (sym (request-more e K w q) ∙ h)) [
    | inl p ↦ (e, rw (← p) (event_at-here e K), worker-is e.who w q)
    | inr p ↦ later (request-own K w r p)
  ]
  | inr q ↦ later (request-own K w r (sym (request-same e K w q) ∙ h))
]
  where
    later : (d : Event) × (event_at K r ≡ Some d) × (d.who ≡ Worker w) → (d : Event) × (event_at (e ∷ K) r ≡ Some d) × (d.who ≡ Worker w)
    later z = (z.0, event_at-older e K r (event_at-below K r z.0 z.1) ∙ z.1, z.2)

pub request-below : (K : List Event) (w r : ℕ) → request_of K w ≡ Some r → r < length K
request-below K w r h = let z = request-own K w r h in event_at-below K r z.0 z.1

-- ---- the call for which a request was put

pub call-older : (e : Event) (K : List Event) (r : ℕ) → r < length K → call_at (e ∷ K) r ≡ call_at K r
unfolding call_at
call-older e K r l = let n : (r ≡ length K → ⊥) = omega arith in rw (ne_eqb r (length K) n)

pub call-above : (K : List Event) (r : ℕ) → length K ≤ r → call_at K r ≡ None
unfolding call_at
call-above [] r h = refl
call-above (e ∷ K) r h = let n : (r ≡ length K → ⊥) = omega arith in rw (ne_eqb r (length K) n) (call-above K r (omega arith))

pub call-here : (e : Event) (K : List Event) → call_at (e ∷ K) (length K) ≡ asked_call K e.what
unfolding call_at
call-here e K = rw (eq-eqb (length K) (length K) refl)
