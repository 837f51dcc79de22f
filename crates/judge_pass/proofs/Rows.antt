-- Facts of rows by their numbers, when a row is set or added; numbers that are kept, when more is counted.
-- By the lists' own equations.
use Rattle.std.proofs.Common.{◌≡◌, ℕ, ◌+◌, ◌<◌, ◌≤◌, Bool, List, [], ◌∷◌, ◌++◌, length, refl, sym, subst, arith, inl, inr, Option, Some, None}
use Rattle.std.specs.Prelude.{get_or}
use Rattle.std.proofs.Math.ListN.{set}
use Rattle.std.proofs.Math.Seq.{get_or-append_seam}
use Rattle.std.proofs.lemmas.Bool.{cases_Bool, cases_eq}
use Rattle.std.proofs.lemmas.List.{get_or-set_other, get_or_append_left}
use Rattle.std.proofs.lemmas.Grind.{get_or-set_at}
use Rattle.hist_model.specs.declared.event.Event.{Event}
use Rattle.hist_model.specs.declared.event.What.{What}
use Rattle.history_frames.specs.Ordinals.{count_of, nth_of}
use Rattle.history_frames.proofs.Ordinals.{made-place, place-below, place-old}
use Rattle.tasks.proofs.Read.{item-read}
use Rattle.judge_pass.specs.Stands.{IsBelow}

module _ {X : Type 0} where
  -- each row but one is as it was
  pub rows-set : (Q : ℕ → X → Type 0) (xs ys : List X) (i : ℕ) (y : X) → ys ≡ set xs i y → ((n : ℕ) (d : X) → n < length xs → (n ≡ i → ⊥) → Q n (get_or xs n d)) → Q i y
      → (n : ℕ) (d : X) → n < length xs → Q n (get_or ys n d)
  rows-set Q xs ys i y q others here n d l = elim (cases_eq n i) [
    | inl e ↦
        let k : get_or ys n d ≡ y = rw q (get_or-set_at xs i n y d e (omega (arith, e))) in
        rw k (subst (λ (m : ℕ). Q m y) (sym e) here)
    | inr a ↦ rw q (rw (get_or-set_other xs i n y d a) (others n d l a))
  ]

  -- one more row
  pub rows-push : (Q : ℕ → X → Type 0) (xs ys : List X) (y : X) → ys ≡ xs ++ y ∷ [] → ((n : ℕ) (d : X) → n < length xs → Q n (get_or xs n d)) → Q (length xs) y
      → (n : ℕ) (d : X) → n < length xs + 1 → Q n (get_or ys n d)
  rows-push Q xs ys y q others here n d l = elim (cases_eq n (length xs)) [
    | inl e ↦
        let k : get_or ys n d ≡ y = rw (q, e) (get_or-append_seam xs y [] d) in
        rw k (subst (λ (m : ℕ). Q m y) (sym e) here)
    | inr a ↦
        let b : n < length xs = below l a in
        rw q (rw (get_or_append_left xs (y ∷ []) d n b) (others n d b))
  ]
    where
      below : n < length xs + 1 → (n ≡ length xs → ⊥) → n < length xs
      below l a = grind arith

-- ---- counts

-- there are as many as before, or one more
pub count-least : (kind : What → Bool) (e : Event) (K : List Event) → count_of kind K ≤ count_of kind (e ∷ K)
unfolding count_of
count-least kind e K = elim (cases_Bool (kind e.what)) [ inl q ↦ rw q (omega arith) | inr q ↦ rw q (omega arith) ]

-- and no more than events
pub count-below : (kind : What → Bool) (K : List Event) → count_of kind K ≤ length K
unfolding count_of
count-below kind [] = omega arith
count-below kind (e ∷ K) = let ih = count-below kind K in elim (cases_Bool (kind e.what)) [ inl q ↦ rw q (omega (arith, ih)) | inr q ↦ rw q (omega (arith, ih)) ]

-- a number that is kept stays in range
pub below-more : (n m : ℕ) (o : Option ℕ) → n ≤ m → IsBelow n o → IsBelow m o
below-more n m (Some x) l h = omega (arith, l, h)
below-more n m None l h = tt

-- the place of the one with this number, if there is a number
abbrev pub place_in : (What → Bool) → List Event → Option ℕ → Option ℕ
place_in kind K (Some n) = nth_of kind K n
place_in kind K None = None

pub place-kept : (kind : What → Bool) (e : Event) (K : List Event) (o : Option ℕ) → IsBelow (count_of kind K) o → place_in kind (e ∷ K) o ≡ place_in kind K o
place-kept kind e K (Some n) h = place-old kind e K n h
place-kept kind e K None h = refl

-- it is one of the places
pub place-there : (kind : What → Bool) (K : List Event) (n : ℕ) → n < count_of kind K → (p : ℕ) × (nth_of kind K n ≡ Some p) × (p < length K)
place-there kind K n l = let m = made-place kind K n l in (m.0, m.1, (place-below kind K n m.0 m.1).1)

-- what is read twice at one place is the same
pub same-item : {X : Type 0} → (xs : List X) (i : ℕ) (x y : X) → i < length xs → x ≡ get_or xs i x → y ≡ get_or xs i y → x ≡ y
same-item xs i x y l p q = let a = item-read xs i x l p in let b = item-read xs i y l q in cc
