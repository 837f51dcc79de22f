-- Calls after an event: which are listed and fetched, and which ids name them.
-- By the one event that each definition looks at first, and by induction on the events.
use Rattle.std.proofs.Common.{◌≡◌, ◌⊎◌, inl, inr, ℕ, ◌<◌, Bool, true, false, ◌&&◌, not, List, [], ◌∷◌, length, Option, Some, None, refl, ap, ◌∙◌, arith}
use Rattle.std.specs.Prelude.{◌==◌}
use Rattle.std.proofs.lemmas.Bool.{cases_Bool, eqb-true, eq-eqb, ne_eqb, and_parts, and_from, not-true}
use Rattle.hist_model.specs.Look.{is_place}
use Rattle.hist_model.specs.Kinds.{notifies}
use Rattle.hist_model.specs.Calls.{caller, id, is_call, unlists, listed, fetched, named}
use Rattle.hist_model.specs.declared.event.Event.{Event}
use Rattle.hist_model.proofs.Look.{event_at-here, event_at-older, event_at-above, below_or_last, oldest-some, oldest-found}

-- ---- which calls are listed

pub listed-below : (K : List Event) (c : ℕ) → listed K c ≡ true → c < length K
unfolding listed
listed-below [] c h = cc
listed-below (e ∷ K) c h = elim (cases_Bool (c == length K)) [
  | inl q ↦ omega (arith, eqb-true c (length K) q)
  | inr q ↦ let l = listed-below K c (and_parts (listed K c) (not (unlists e (caller K c))) (rw q at h)).0 in omega arith
]

pub listed-here : (e : Event) (K : List Event) → listed (e ∷ K) (length K) ≡ notifies e.what
unfolding listed
listed-here e K = rw (eq-eqb (length K) (length K) refl)

pub listed-older : (e : Event) (K : List Event) (c : ℕ) → c < length K → listed (e ∷ K) c ≡ (listed K c && not (unlists e (caller K c)))
unfolding listed
listed-older e K c l = let n : (c ≡ length K → ⊥) = omega arith in rw (ne_eqb c (length K) n)

-- what is listed is the new call, or was listed before
pub listed-cases : (e : Event) (K : List Event) (c : ℕ) → listed (e ∷ K) c ≡ true → ((c ≡ length K) × (notifies e.what ≡ true)) ⊎ ((c < length K) × (listed K c ≡ true) × (unlists e (caller K c) ≡ false))
listed-cases e K c h =
    elim (below_or_last c (length K) (listed-below (e ∷ K) c h)) [
      | inl l ↦ let p = and_parts (listed K c) (not (unlists e (caller K c))) (rw (listed-older e K c l) at h) in inr (l, p.0, not-true (unlists e (caller K c)) p.1)
      | inr q ↦ inl (q, rw (q, listed-here e K) at h)
    ]

pub listed-stays : (e : Event) (K : List Event) (c : ℕ) → listed K c ≡ true → unlists e (caller K c) ≡ false → listed (e ∷ K) c ≡ true
listed-stays e K c h u = rw (listed-older e K c (listed-below K c h), h, u)

pub caller-older : (e : Event) (K : List Event) (c : ℕ) → c < length K → caller (e ∷ K) c ≡ caller K c
caller-older e K c l = rw (event_at-older e K c l)

pub id-older : (e : Event) (K : List Event) (c : ℕ) → c < length K → id (e ∷ K) c ≡ id K c
id-older e K c l = rw (event_at-older e K c l)

pub is_call-below : (K : List Event) (c : ℕ) → is_call K c ≡ true → c < length K
is_call-below K c h = grind (arith, event_at-above K c)

pub listed-is_call : (K : List Event) (c : ℕ) → listed K c ≡ true → is_call K c ≡ true
listed-is_call [] c h = absurd (omega (arith, listed-below [] c h))
listed-is_call (e ∷ K) c h =
    elim (listed-cases e K c h) [
      | inl p ↦ rw (p.0, event_at-here e K) p.1
      | inr p ↦ rw (event_at-older e K c p.0) (listed-is_call K c p.1)
    ]

-- ---- which calls are fetched

pub fetched-below : (K : List Event) (c : ℕ) → fetched K c ≡ true → c < length K
unfolding fetched
fetched-below [] c h = cc
fetched-below (e ∷ K) c h = elim (cases_Bool (fetched K c)) [
  | inl q ↦ omega (arith, fetched-below K c q)
  | inr q ↦ omega (arith, listed-below K c (grind arith))
]

pub fetched-new : (e : Event) (K : List Event) → fetched (e ∷ K) (length K) ≡ false
unfolding fetched
fetched-new e K = grind (arith, fetched-below, listed-below)

-- ---- which call an id names

pub named-listed : (K : List Event) (x c : ℕ) → named K x ≡ Some c → (listed K c ≡ true) × (id K c ≡ x)
unfolding named
named-listed K x c q =
    let p = and_parts (listed K c) (id K c == x) (oldest-some (λ c. listed K c && (id K c == x)) (length K) c q).0 in
    (p.0, eqb-true (id K c) x p.1)

-- a listed call is named by its id where no other one has it
pub named-is : (K : List Event) (x c : ℕ) → listed K c ≡ true → id K c ≡ x → ((d : ℕ) → listed K d ≡ true → id K d ≡ x → d ≡ c) → named K x ≡ Some c
unfolding named
named-is K x c h q one =
    let test : ℕ → Bool = λ c. listed K c && (id K c == x) in
    let f = oldest-found test (length K) c (listed-below K c h) (and_from (listed K c) (id K c == x) h (eq-eqb (id K c) x q)) in
    let l = oldest-some test (length K) f.0 f.1 in
    let p = and_parts (listed K f.0) (id K f.0 == x) l.0 in
    f.1 ∙ ap Some (one f.0 p.0 (eqb-true (id K f.0) x p.1))

pub place-is : (o : Option ℕ) (c : ℕ) → is_place o c ≡ true → o ≡ Some c
place-is None c h = cc
place-is (Some d) c h = ap Some (eqb-true d c h)
