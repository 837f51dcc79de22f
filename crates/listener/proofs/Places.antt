-- The place of a call among the listed ones: what is found, written and taken away there.
-- By induction on the calls, and by where a search in sorted entries ends.
use Rattle.std.proofs.Common.{◌≡◌, inl, inr, ℕ, zero, suc, ◌<◌, ◌≤◌, List, [], ◌∷◌, length, get_or, Result, Ok, Err, IfOk, IfErr, refl, arith}
use Rattle.std.specs.Prelude.{MatchResult, slice_get, find, nat_le}
use Rattle.std.specs.List.Sorted.{IsSearchInRange, IsBinarySearchResult}
use Rattle.std.specs.Ordering.{nat_cmp}
use Rattle.std.proofs.lemmas.Bool.{cases_lt, eq-eqb, ne_eqb, le-leb, lt-leb}
use Rattle.sorted_list.specs.Entries.{NumbersRise}
use Rattle.sorted_list.proofs.Found.{rise-tail, searched-place, searched-gap}
use Rattle.listener.specs.declared.order.Entry.{Entry}
use Rattle.listener.specs.Entries.{IsPlace, IsAbsent, entry_number}

absent-of : (xs : List Entry) (n : ℕ) → ((i : ℕ) (d : Entry) → i < length xs → (get_or xs i d).number ≡ n → ⊥) → IsAbsent xs n
absent-of [] n h = record { found = refl; rest = refl; put = λ y. refl }
absent-of (x ∷ xs) n h =
    let a : (x.number ≡ n → ⊥) = h 0 x (omega arith) in
    let t = absent-of xs n (λ i d l. h (suc i) d (omega arith)) in
    record { found = rw (ne_eqb x.number n a) t.found; rest = rw (ne_eqb x.number n a, t.rest); put = λ y. rw (ne_eqb x.number n a, t.put y) }

place-at : (xs : List Entry) (n i : ℕ) → NumbersRise entry_number xs → i < length xs → ((d : Entry) → (get_or xs i d).number ≡ n) → IsPlace xs n i
place-at [] n i r l q = absurd (omega arith)
place-at (x ∷ xs) n zero r l q =
    let e = eq-eqb x.number n (q x) in
    let t = absent-of xs n (λ i d m p. omega (arith, r 0 (suc i) d (omega arith) (omega arith), q d)) in
    record { bound = l; found = λ d. rw e; rest = rw e t.rest; put = λ y d. rw (e, t.put y) }
place-at (x ∷ xs) n (suc i) r l q =
    let a : (x.number ≡ n → ⊥) = λ z. omega (arith, r 0 (suc i) x (omega arith) l, q x) in
    let t = place-at xs n i (rise-tail entry_number x xs r) (omega arith) q in
    record { bound = l; found = λ d. rw (ne_eqb x.number n a) (t.found d); rest = rw (ne_eqb x.number n a, t.rest); put = λ y d. rw (ne_eqb x.number n a, t.put y d) }

-- the first call whose number isn't below this one stands after those with lower numbers
first-at : (xs : List Entry) (n i : ℕ) → ((k : ℕ) (d : Entry) → k < i → (get_or xs k d).number < n) → ((d : Entry) → i < length xs → n ≤ (get_or xs i d).number) → i ≤ length xs → find (λ (e : Entry). nat_le n e.number) xs ≡ slice_get xs i
first-at [] n i low high b = refl
first-at (x ∷ xs) n zero low high b = rw (le-leb n x.number (high x (omega arith)))
first-at (x ∷ xs) n (suc i) low high b = rw (lt-leb n x.number (low 0 x (omega arith))) (first-at xs n i (λ k d l. low (suc k) d (omega arith)) (λ d l. high d (omega arith)) (omega arith))

module _ (xs : List Entry) (n : ℕ) (rise : NumbersRise entry_number xs) where
  pub place-found : (r : Result ℕ ℕ) → IsSearchInRange r (length xs) → IsBinarySearchResult (λ (e : Entry). nat_cmp e.number n) xs r → IfOk r (λ i. IsPlace xs n i)
  place-found (Ok i) b s = let p = searched-place entry_number xs n (Ok i) b s in place-at xs n i rise p.within p.here
  place-found (Err i) b s = tt

  pub place-absent : (r : Result ℕ ℕ) → IsSearchInRange r (length xs) → IsBinarySearchResult (λ (e : Entry). nat_cmp e.number n) xs r → IfErr r (λ i. IsAbsent xs n)
  place-absent (Ok i) b s = tt
  place-absent (Err i) b s = let g = searched-gap entry_number xs n (Err i) rise b s in
      absent-of xs n (λ k d l q. elim (cases_lt k i) [
        | inl m ↦ omega (arith, g.lower k d m)
        | inr m ↦ omega (arith, g.higher k d m l)
      ])

  pub place-first : (r : Result ℕ ℕ) → IsSearchInRange r (length xs) → IsBinarySearchResult (λ (e : Entry). nat_cmp e.number n) xs r
      → MatchResult r (λ i. find (λ (e : Entry). nat_le n e.number) xs ≡ slice_get xs i) (λ i. find (λ (e : Entry). nat_le n e.number) xs ≡ slice_get xs i)
  place-first (Ok i) b s = let p = searched-place entry_number xs n (Ok i) b s in
      first-at xs n i (λ k d l. omega (arith, rise k i d l p.within, p.here d)) (λ d l. omega (arith, p.here d)) (omega (arith, p.within))
  place-first (Err i) b s = let g = searched-gap entry_number xs n (Err i) rise b s in
      first-at xs n i g.lower (λ d l. omega (arith, g.higher i d (omega arith) l)) g.within
