-- Entries whose numbers rise: where a binary search ends, and which entry a number has.
-- By the order of two places, and by induction on the entries.
use Rattle.std.proofs.Common.{◌≡◌, ◌≢◌, inl, inr, ℕ, zero, suc, ◌+◌, ◌<◌, ◌≤◌, List, [], ◌∷◌, length, get_or, Some, None, Result, Ok, Err, IfOk, IfErr, Contains, refl, sym, ap, ◌∙◌, arith}
use Rattle.std.specs.List.Sorted.{IsSearchInRange, IsBinarySearchResult, IsNonDecreasingBy}
use Rattle.std.specs.Ordering.{nat_cmp, ordering_index}
use Rattle.std.proofs.lemmas.Bool.{cases_eq, cases_lt, eq-eqb, ne_eqb}
use Rattle.std.proofs.lemmas.Bool.Decides.{nat_tests}
use Rattle.std.proofs.lemmas.Cmp.{ranked}
use Rattle.std.proofs.lemmas.List.{get_or_default}
use Rattle.sorted_list.specs.Entries.{NumbersRise, entry_for, IsPlaceOf, IsGapFor}

module _ {T : Type 0} (number : T → ℕ) where
  -- no entry before this place has the number
  abbrev pub NoneBefore : List T → ℕ → ℕ → Type 0
  NoneBefore xs n i = (k : ℕ) (d : T) → k < i → number (get_or xs k d) ≢ n

  pub none-tail : (x : T) (xs : List T) (n i : ℕ) → NoneBefore (x ∷ xs) n (suc i) → NoneBefore xs n i
  none-tail x xs n i h k d l = h (suc k) d (omega arith)

  pub rise-none : NumbersRise number []
  rise-none i j d l m = absurd (omega arith)

  pub rise-tail : (x : T) (xs : List T) → NumbersRise number (x ∷ xs) → NumbersRise number xs
  rise-tail x xs r i j d l m = r (suc i) (suc j) d (omega arith) (omega arith)

  -- numbers rise at least as fast as places
  pub rise-fast : (xs : List T) (i j : ℕ) (d : T) → NumbersRise number xs → i ≤ j → j < length xs → number (get_or xs i d) + j ≤ number (get_or xs j d) + i
  rise-fast xs i zero d r l m = let z : i ≡ 0 = omega arith in rw z (omega arith)
  rise-fast xs i (suc j) d r l m = elim (cases_eq i (suc j)) [
    | inl q ↦ rw q (omega arith)
    | inr q ↦ omega (arith, rise-fast xs i j d r (omega arith) (omega arith), r j (suc j) d (omega arith) m)
  ]

  rise-by : (xs : List T) → NumbersRise number xs → IsNonDecreasingBy number xs
  rise-by xs r i j d l m = omega (arith, rise-fast xs i j d r l m)

  -- the comparisons with a number rise, as a binary search asks
  comparisons-rise : (xs : List T) (n : ℕ) → NumbersRise number xs → IsNonDecreasingBy (λ e. ordering_index (nat_cmp (number e) n)) xs
  comparisons-rise xs n r i j d l m = ranks (number (get_or xs i d)) (number (get_or xs j d)) (rise-by xs r i j d l m)
    where
      ranks : (a b : ℕ) → a ≤ b → ordering_index (nat_cmp a n) ≤ ordering_index (nat_cmp b n)
      ranks a b l = grind (arith, nat_tests)

  -- a binary search ends at the entry of the number, or in its gap
  pub searched-place : (xs : List T) (n : ℕ) (r : Result ℕ ℕ) → IsSearchInRange r (length xs) → IsBinarySearchResult (λ e. nat_cmp (number e) n) xs r → IfOk r (λ i. IsPlaceOf number xs n i)
  searched-place xs n (Ok i) b s = record { within = b; here = λ d. ranked _ n _ (sym (s d)) }
  searched-place xs n (Err i) b s = tt

  pub searched-gap : (xs : List T) (n : ℕ) (r : Result ℕ ℕ) → NumbersRise number xs → IsSearchInRange r (length xs) → IsBinarySearchResult (λ e. nat_cmp (number e) n) xs r → IfErr r (λ i. IsGapFor number xs n i)
  searched-gap xs n (Ok i) rise b s = tt
  searched-gap xs n (Err i) rise b s = let p = s (comparisons-rise xs n rise) in record {
    within = b;
    lower = λ k d l. ranked _ n _ (sym (p.0 k d (omega arith) l));
    higher = λ k d l m. ranked _ n _ (sym (p.1 k d l m));
  }

  pub none-absent : (xs : List T) (n : ℕ) → NoneBefore xs n (length xs) → entry_for number xs n ≡ None
  unfolding entry_for
  none-absent [] n h = refl
  none-absent (x ∷ xs) n h = rw (ne_eqb (number x) n (h 0 x (omega arith))) (none-absent xs n (none-tail x xs n (length xs) h))

  pub first-found : (xs : List T) (n i : ℕ) (d : T) → i < length xs → number (get_or xs i d) ≡ n → NoneBefore xs n i → entry_for number xs n ≡ Some (get_or xs i d)
  unfolding entry_for
  first-found [] n i d l q h = absurd (omega arith)
  first-found (x ∷ xs) n zero d l q h = rw (eq-eqb (number x) n q)
  first-found (x ∷ xs) n (suc i) d l q h = rw (ne_eqb (number x) n (h 0 x (omega arith))) (first-found xs n i d (omega arith) q (none-tail x xs n i h))

  pub none-before : (xs : List T) (n i : ℕ) → NumbersRise number xs → IsPlaceOf number xs n i → NoneBefore xs n i
  none-before xs n i r p k d l q = omega (arith, r k i d l p.within, p.here d)

  pub gap-before : (xs : List T) (n i : ℕ) → IsGapFor number xs n i → NoneBefore xs n i
  gap-before xs n i g k d l q = omega (arith, g.lower k d l)

  pub place-entry : (xs : List T) (n i : ℕ) (d : T) → NumbersRise number xs → IsPlaceOf number xs n i → entry_for number xs n ≡ Some (get_or xs i d)
  place-entry xs n i d r p = first-found xs n i d p.within (p.here d) (none-before xs n i r p)

  pub gap-entry : (xs : List T) (n i : ℕ) → IsGapFor number xs n i → entry_for number xs n ≡ None
  gap-entry xs n i g = none-absent xs n (λ k d l q. elim (cases_lt k i) [
    | inl m ↦ omega (arith, g.lower k d m)
    | inr m ↦ omega (arith, g.higher k d m l)
  ])

  -- ---- what is found is listed, and what is listed is found

  pub entry-listed : (xs : List T) (n : ℕ) (e : T) → entry_for number xs n ≡ Some e → Contains xs e × (number e ≡ n)
  unfolding entry_for
  entry-listed [] n e q = absurd (cc)
  entry-listed (x ∷ xs) n e q = elim (cases_eq (number x) n) [
    | inl a ↦ let s : Some x ≡ Some e = rw (eq-eqb (number x) n a) at q in let t : x ≡ e = cc in ((0, omega arith, t), ap number (sym t) ∙ a)
    | inr a ↦ let p = entry-listed xs n e (rw (ne_eqb (number x) n a) at q) in ((suc p.0.0, omega (arith, p.0.1), p.0.2), p.1)
  ]

  pub listed-entry : (xs : List T) (e : T) → NumbersRise number xs → Contains xs e → entry_for number xs (number e) ≡ Some e
  listed-entry xs e r c =
      let p : IsPlaceOf number xs (number e) c.0 = record { within = c.1; here = λ d. ap number (get_or_default xs c.0 d e c.1 ∙ c.2) } in
      place-entry xs (number e) c.0 e r p ∙ ap Some c.2
