-- Ordinals and places: what is made keeps its ordinal, each place has one, and they rise together.
-- By induction on the events, and by whether the newest one makes something.
use Rattle.std.proofs.Common.{◌≡◌, ◌⊎◌, inl, inr, ℕ, ◌+◌, ◌<◌, ◌≤◌, Bool, true, false, ◌&&◌, List, [], ◌∷◌, length, Some, None, refl, sym, ap, ◌∙◌, arith}
use Rattle.std.specs.Prelude.{◌==◌}
use Rattle.std.proofs.lemmas.Bool.{cases_Bool, cases_order, eqb-true, eq-eqb, ne_eqb, and_parts}
use Rattle.hist_model.specs.Look.{event_at}
use Rattle.hist_model.specs.Kinds.{makes}
use Rattle.hist_model.specs.Tasks.{name_of, pid_of}
use Rattle.hist_model.specs.Steps.{makes_in}
use Rattle.hist_model.specs.declared.event.Event.{Event}
use Rattle.hist_model.proofs.Look.{event_at-here, event_at-older, event_at-above, below_or_last}
use Rattle.hist_model.specs.declared.event.What.{What}
use Rattle.history_frames.specs.Ordinals.{count_of, nth_of, tasks_made, place_of}

pub made-more : (kind : What → Bool) (e : Event) (K : List Event) → kind e.what ≡ true → count_of kind (e ∷ K) ≡ count_of kind K + 1
unfolding count_of
made-more kind e K h = rw h

pub made-same : (kind : What → Bool) (e : Event) (K : List Event) → kind e.what ≡ false → count_of kind (e ∷ K) ≡ count_of kind K
unfolding count_of
made-same kind e K h = rw h (omega arith)

made-least : (kind : What → Bool) (e : Event) (K : List Event) → count_of kind K ≤ count_of kind (e ∷ K)
unfolding count_of
made-least kind e K = omega arith

-- what the event makes has the next ordinal
pub place-new : (kind : What → Bool) (e : Event) (K : List Event) → kind e.what ≡ true → nth_of kind (e ∷ K) (count_of kind K) ≡ Some (length K)
unfolding nth_of
place-new kind e K h = rw (h, eq-eqb (count_of kind K) (count_of kind K) refl)

-- what was made before it keeps its own
pub place-old : (kind : What → Bool) (e : Event) (K : List Event) (o : ℕ) → o < count_of kind K → nth_of kind (e ∷ K) o ≡ nth_of kind K o
unfolding nth_of
place-old kind e K o l = let n : (count_of kind K ≡ o → ⊥) = omega arith in rw (ne_eqb (count_of kind K) o n, never (kind e.what))
  where
    never : (b : Bool) → (b && false) ≡ false
    never b = grind arith

pub place-same : (kind : What → Bool) (e : Event) (K : List Event) (o : ℕ) → kind e.what ≡ false → nth_of kind (e ∷ K) o ≡ nth_of kind K o
unfolding nth_of
place-same kind e K o h = rw h

pub place-cases : (kind : What → Bool) (e : Event) (K : List Event) (o t : ℕ) → nth_of kind (e ∷ K) o ≡ Some t → ((kind e.what ≡ true) × (count_of kind K ≡ o) × (length K ≡ t)) ⊎ (nth_of kind K o ≡ Some t)
unfolding nth_of
place-cases kind e K o t q =
    elim (cases_Bool (kind e.what && (count_of kind K == o))) [
      | inl h ↦ let p = and_parts (kind e.what) (count_of kind K == o) h in
          let s : Some (length K) ≡ Some t = rw h at q in
          let i : length K ≡ t = cc in
          inl (p.0, eqb-true (count_of kind K) o p.1, i)
      | inr h ↦ inr (rw h at q)
    ]

pub place-below : (kind : What → Bool) (K : List Event) (o t : ℕ) → nth_of kind K o ≡ Some t → (o < count_of kind K) × (t < length K)
place-below kind [] o t q = unfold nth_of in cc
place-below kind (e ∷ K) o t q =
    elim (place-cases kind e K o t q) [
      | inl p ↦ (omega (arith, made-more kind e K p.0, p.1), omega (arith, p.2))
      | inr p ↦ let b = place-below kind K o t p in (omega (arith, b.0, made-least kind e K), omega (arith, b.1))
    ]

pub place-makes : (K : List Event) (o t : ℕ) → place_of K o ≡ Some t → makes_in (event_at K t) ≡ true
place-makes [] o t q = unfold nth_of in cc
place-makes (e ∷ K) o t q =
    elim (place-cases makes e K o t q) [
      | inl p ↦ rw (← p.2, event_at-here e K) p.0
      | inr p ↦ rw (event_at-older e K t (place-below makes K o t p).1) (place-makes K o t p)
    ]

pub makes-below : (K : List Event) (t : ℕ) → makes_in (event_at K t) ≡ true → t < length K
makes-below K t h =
    elim (cases_order t (length K)) [
      | inl q ↦ absurd (past (omega arith))
      | inr q ↦ elim q [ inl q ↦ q | inr q ↦ absurd (past (omega arith)) ]
    ]
  where
    past : length K ≤ t → ⊥
    past a = let h' : makes_in None ≡ true = rw (event_at-above K t a) at h in cc

-- each place where a task was made has an ordinal
pub make-place : (K : List Event) (t : ℕ) → makes_in (event_at K t) ≡ true → (o : ℕ) × (place_of K o ≡ Some t)
make-place [] t h = absurd (omega (arith, makes-below [] t h))
make-place (e ∷ K) t h =
    elim (below_or_last t (length K) (makes-below (e ∷ K) t h)) [
      | inl l ↦ let m = make-place K t (rw (event_at-older e K t l) at h) in (m.0, place-old makes e K m.0 (place-below makes K m.0 t m.1).0 ∙ m.1)
      | inr i ↦ let h' : makes_in (event_at (e ∷ K) (length K)) ≡ true = rw i at h in
          let m : makes e.what ≡ true = rw (event_at-here e K) at h' in
          (tasks_made K, place-new makes e K m ∙ ap Some (sym i))
    ]

pub made-place : (kind : What → Bool) (K : List Event) (o : ℕ) → o < count_of kind K → (t : ℕ) × (nth_of kind K o ≡ Some t)
made-place kind [] o l = absurd (unfold count_of in omega arith)
made-place kind (e ∷ K) o l =
    elim (cases_Bool (kind e.what)) [
      | inl h ↦ elim (below_or_last o (count_of kind K) (omega (arith, made-more kind e K h))) [
        | inl m ↦ let p = made-place kind K o m in (p.0, place-old kind e K o m ∙ p.1)
        | inr i ↦ (length K, ap (nth_of kind (e ∷ K)) i ∙ place-new kind e K h)
      ]
      | inr h ↦ let p = made-place kind K o (omega (arith, made-same kind e K h)) in (p.0, place-same kind e K o h ∙ p.1)
    ]

-- no two ordinals are of one place
pub place-one : (kind : What → Bool) (K : List Event) (o p t : ℕ) → nth_of kind K o ≡ Some t → nth_of kind K p ≡ Some t → o ≡ p
place-one kind [] o p t q r = unfold nth_of in cc
place-one kind (e ∷ K) o p t q r =
    elim (place-cases kind e K o t q) [
      | inl a ↦ elim (place-cases kind e K p t r) [
        | inl b ↦ sym a.1 ∙ b.1
        | inr b ↦ absurd (omega (arith, a.2, (place-below kind K p t b).1))
      ]
      | inr a ↦ elim (place-cases kind e K p t r) [
        | inl b ↦ absurd (omega (arith, b.2, (place-below kind K o t a).1))
        | inr b ↦ place-one kind K o p t a b
      ]
    ]

-- ordinals rise with places
pub place-order : (kind : What → Bool) (K : List Event) (o p t u : ℕ) → nth_of kind K o ≡ Some t → nth_of kind K p ≡ Some u → o < p → t < u
place-order kind [] o p t u q r l = unfold nth_of in cc
place-order kind (e ∷ K) o p t u q r l =
    elim (place-cases kind e K o t q) [
      | inl a ↦ elim (place-cases kind e K p u r) [
        | inl b ↦ absurd (omega (arith, a.1, b.1, l))
        | inr b ↦ absurd (omega (arith, a.1, (place-below kind K p u b).0, l))
      ]
      | inr a ↦ elim (place-cases kind e K p u r) [
        | inl b ↦ omega (arith, b.2, (place-below kind K o t a).1)
        | inr b ↦ place-order kind K o p t u a b l
      ]
    ]

pub name-older : (e : Event) (K : List Event) (t : ℕ) → t < length K → name_of (e ∷ K) t ≡ name_of K t
name-older e K t l = rw (event_at-older e K t l)

pub pid-older : (e : Event) (K : List Event) (t : ℕ) → t < length K → pid_of (e ∷ K) t ≡ pid_of K t
pid-older e K t l = rw (event_at-older e K t l)
