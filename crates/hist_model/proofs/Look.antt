-- What looking back finds: the event at a place, and the newest and the oldest place that passes a test.
-- By induction on the events, or on the places below the bound.
use Rattle.std.proofs.Common.{◌≡◌, ◌⊎◌, inl, inr, ℕ, zero, suc, ◌<◌, ◌≤◌, Bool, true, false, List, [], ◌∷◌, length, Option, Some, None, refl, sym, ◌∙◌, arith}
use Rattle.std.specs.Prelude.{if◌then◌else◌, ◌==◌}
use Rattle.std.proofs.lemmas.Bool.{eqb-true, eq-eqb, ne_eqb, cases_Bool, cases_order, both_ways, and_parts, and_from}
use Rattle.hist_model.specs.Look.{Name, name_eq, event_at, newest, oldest, or_else}
use Rattle.hist_model.specs.declared.event.Event.{Event}

pub name_eq-true : (n m : Name) → name_eq n m ≡ true → n ≡ m
name_eq-true [] [] e = refl
name_eq-true (a ∷ n) (b ∷ m) e =
    let p = and_parts (a == b) (name_eq n m) e in
    let h : a ≡ b = eqb-true a b p.0 in
    let t = name_eq-true n m p.1 in cc
name_eq-true [] (b ∷ m) e = cc
name_eq-true (a ∷ n) [] e = cc

pub name_eq-refl : (n : Name) → name_eq n n ≡ true
name_eq-refl [] = refl
name_eq-refl (a ∷ n) = and_from (a == a) (name_eq n n) (eq-eqb a a refl) (name_eq-refl n)

pub event_at-here : (e : Event) (K : List Event) → event_at (e ∷ K) (length K) ≡ Some e
unfolding event_at
event_at-here e K = rw (eq-eqb (length K) (length K) refl)

pub event_at-above : (K : List Event) (c : ℕ) → length K ≤ c → event_at K c ≡ None
unfolding event_at
event_at-above [] c h = refl
event_at-above (e ∷ K) c h =
    let n : (c ≡ length K → ⊥) = omega arith in
    rw (ne_eqb c (length K) n) (event_at-above K c (omega arith))

pub event_at-older : (e : Event) (K : List Event) (c : ℕ) → c < length K → event_at (e ∷ K) c ≡ event_at K c
unfolding event_at
event_at-older e K c h = let n : (c ≡ length K → ⊥) = omega arith in rw (ne_eqb c (length K) n)

oldest-step : (test : ℕ → Bool) (n t : ℕ) (r : Option ℕ) → oldest test n ≡ r
    → or_else r (if test n then Some n else None) ≡ Some t
    → (oldest test n ≡ Some t → (test t ≡ true) × (t < n)) → (test t ≡ true) × (t < suc n)
oldest-step test n t (Some c) q e ih = let r = ih (q ∙ e) in (r.0, omega arith)
oldest-step test n t None q e ih =
    elim (cases_Bool (test n)) [
      | inl h ↦ let e' : Some n ≡ Some t = rw h at e in let q : n ≡ t = cc in (rw q at h, omega arith)
      | inr h ↦ let e' : None ≡ Some t = rw h at e in cc
    ]

none-step : (test : ℕ → Bool) (n t : ℕ) (r : Option ℕ) → oldest test n ≡ r
    → or_else r (if test n then Some n else None) ≡ None → t < suc n
    → (oldest test n ≡ None → t < n → test t ≡ false) → test t ≡ false
none-step test n t (Some c) q e l ih = cc
none-step test n t None q e l ih =
    elim (cases_Bool (test n)) [
      | inl h ↦ let e' : Some n ≡ None = rw h at e in cc
      | inr h ↦ elim (cases_order t n) [
        | inl q' ↦ rw (← q') at h
        | inr q' ↦ elim q' [
          | inl q'' ↦ ih q q''
          | inr q'' ↦ absurd (omega arith)
        ]
      ]
    ]

pub newest-some : (test : ℕ → Bool) (n t : ℕ) → newest test n ≡ Some t → (test t ≡ true) × (t < n)
unfolding newest
newest-some test zero t e = cc
newest-some test (suc n) t e =
    elim (cases_Bool (test n)) [
      | inl h ↦ let e' : Some n ≡ Some t = rw h at e in let q : n ≡ t = cc in (rw q at h, omega arith)
      | inr h ↦ let r = newest-some test n t (rw h at e) in (r.0, omega arith)
    ]

pub newest-none : (test : ℕ → Bool) (n t : ℕ) → newest test n ≡ None → t < n → test t ≡ false
unfolding newest
newest-none test zero t e l = absurd (omega arith)
newest-none test (suc n) t e l =
    elim (cases_Bool (test n)) [
      | inl h ↦ let e' : Some n ≡ None = rw h at e in cc
      | inr h ↦ elim (cases_order t n) [
        | inl q ↦ rw (← q) at h
        | inr q ↦ elim q [
          | inl q ↦ newest-none test n t (rw h at e) q
          | inr q ↦ absurd (omega arith)
        ]
      ]
    ]

-- a test that something passes finds something
pub newest-found : (test : ℕ → Bool) (n t : ℕ) → t < n → test t ≡ true → newest test n ≡ None → ⊥
newest-found test n t l h e = both_ways (test t) (newest-none test n t e l) h

pub oldest-some : (test : ℕ → Bool) (n t : ℕ) → oldest test n ≡ Some t → (test t ≡ true) × (t < n)
oldest-some test zero t e = unfold oldest in cc
oldest-some test (suc n) t e = oldest-step test n t (oldest test n) refl (unfold oldest in e) (oldest-some test n t)

pub oldest-none : (test : ℕ → Bool) (n t : ℕ) → oldest test n ≡ None → t < n → test t ≡ false
unfolding oldest
oldest-none test zero t e l = absurd (omega arith)
oldest-none test (suc n) t e l = none-step test n t (oldest test n) refl e l (oldest-none test n t)

pub below_or_last : (t n : ℕ) → t < suc n → (t < n) ⊎ (t ≡ n)
below_or_last t n h = grind arith

pub oldest-same : (p q : ℕ → Bool) (n : ℕ) → ((c : ℕ) → c < n → p c ≡ q c) → oldest p n ≡ oldest q n
unfolding oldest
oldest-same p q zero h = refl
oldest-same p q (suc n) h = rw (oldest-same p q n (λ c l. h c (omega arith)), h n (omega arith))

pub oldest-found : (test : ℕ → Bool) (n t : ℕ) → t < n → test t ≡ true → (s : ℕ) × (oldest test n ≡ Some s)
oldest-found test n t l h = go (oldest test n) refl
  where
    go : (r : Option ℕ) → oldest test n ≡ r → (s : ℕ) × (oldest test n ≡ Some s)
    go (Some s) q = (s, q)
    go None q = absurd (both_ways (test t) (oldest-none test n t q l) h)

-- what is found stays the oldest
pub oldest-stays : (test : ℕ → Bool) (n t : ℕ) → oldest test n ≡ Some t → oldest test (suc n) ≡ Some t
unfolding oldest
oldest-stays test n t q = rw q

pub event_at-below : (K : List Event) (t : ℕ) (e : Event) → event_at K t ≡ Some e → t < length K
event_at-below K t e q = elim (cases_order t (length K)) [
  | inl m ↦ let a : length K ≤ t = omega arith in let z = event_at-above K t a in absurd (none-some e (sym z ∙ q))
  | inr m ↦ elim m [ inl l ↦ l | inr l ↦ let a : length K ≤ t = omega arith in let z = event_at-above K t a in absurd (none-some e (sym z ∙ q)) ]
]
  where
    none-some : (d : Event) → ◌≡◌ {A = Option Event} None (Some d) → ⊥
    none-some d h = cc
