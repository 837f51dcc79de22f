-- Among places that rise each has one row: what a search finds, and what one more row changes.
-- By induction on the rows, by cases on whether a place is the one that is asked for.
use Rattle.std.proofs.Common.{◌≡◌, inl, inr, ℕ, zero, suc, ◌+◌, ◌<◌, ◌≤◌, Bool, true, false, List, [], ◌∷◌, ◌++◌, length, get_or, Option, Some, None, refl, sym, ap, ◌∙◌, subst, arith}
use Rattle.std.specs.Prelude.{◌==◌, if◌then◌else◌, option_map, slice_get, Result, Ok, Err}
use Rattle.std.proofs.lemmas.Bool.{cases_Bool, cases_lt, cases_order, eqb-true, eq-eqb, ne_eqb}
use Rattle.std.proofs.lemmas.List.{length-append, get_or_at, get_or_append_left}
use Rattle.std.proofs.lemmas.List.Sorted.{searched}
use Rattle.std.proofs.lemmas.Option.{slice_get-get_or}
use Rattle.std.specs.List.Sorted.{IsBinarySearchResult}
use Rattle.std.specs.Ordering.{nat_cmp}
use Rattle.hist_model.specs.Look.{or_else}
use Rattle.audit_log.specs.Places.{AreOrdered, Rise, call_in, grown, kept_in, row_in, with_call}
use Rattle.audit_log.specs.declared.places.CallPlaces.{CallPlaces}

-- ---- Rows

-- the first row of a place
row-first : (xs : List ℕ) (i p : ℕ) → i < length xs → get_or xs i 0 ≡ p → ((k : ℕ) → k < i → get_or xs k 0 ≡ p → ⊥) → row_in xs p ≡ Some i
unfolding row_in
row-first [] i p l e n = absurd (omega arith)
row-first (x ∷ xs) zero p l e n = rw (eq-eqb x p e) refl
row-first (x ∷ xs) (suc i) p l e n =
    rw (ne_eqb x p (λ q. n 0 (omega arith) q)) (ap (option_map (λ row. suc row)) (row-first xs i p (omega arith) e (λ k h q. n (suc k) (omega arith) q)))

-- no row is that of a place that has none
pub no_row : (xs : List ℕ) (p : ℕ) → ((k : ℕ) → k < length xs → get_or xs k 0 ≡ p → ⊥) → row_in xs p ≡ None
unfolding row_in
no_row [] p n = refl
no_row (x ∷ xs) p n = rw (ne_eqb x p (λ q. n 0 (omega arith) q)) (ap (option_map (λ row. suc row)) (no_row xs p (λ k h q. n (suc k) (omega arith) q)))

-- the row of a place has that place
pub row_has : (xs : List ℕ) (p i : ℕ) → row_in xs p ≡ Some i → (i < length xs) × (get_or xs i 0 ≡ p)
unfolding row_in
row_has [] p i h = cc
row_has (x ∷ xs) p i h = elim (cases_Bool (x == p)) [
  | inl y ↦ first i (eqb-true x p y) (sym (ap (λ b. if b then Some 0 else option_map (λ row. suc row) (row_in xs p)) y) ∙ h)
  | inr n ↦ later i (row_in xs p) refl (λ j r. row_has xs p j r) (sym (ap (λ b. if b then Some 0 else option_map (λ row. suc row) (row_in xs p)) n) ∙ h)
]
  where
    first : (i : ℕ) → x ≡ p → Some 0 ≡ Some i → (i < length (x ∷ xs)) × (get_or (x ∷ xs) i 0 ≡ p)
    first i e q = let z : 0 ≡ i = cc in subst (λ j. (j < length (x ∷ xs)) × (get_or (x ∷ xs) j 0 ≡ p)) z (omega arith, e)

    later : (i : ℕ) (o : Option ℕ) → row_in xs p ≡ o → ((j : ℕ) → row_in xs p ≡ Some j → (j < length xs) × (get_or xs j 0 ≡ p)) → option_map (λ row. suc row) o ≡ Some i → (i < length (x ∷ xs)) × (get_or (x ∷ xs) i 0 ≡ p)
    later i None r rest q = cc
    later i (Some j) r rest q =
        let z : suc j ≡ i = cc in
        let t = rest j r in
        subst (λ k. (k < length (x ∷ xs)) × (get_or (x ∷ xs) k 0 ≡ p)) z (let l = t.0 in omega arith, t.1)

-- one more row
row-pushed : (xs : List ℕ) (q p : ℕ) → row_in (xs ++ q ∷ []) p ≡ or_else (row_in xs p) (if q == p then Some (length xs) else None)
unfolding row_in
row-pushed [] q p = refl
row-pushed (x ∷ xs) q p = by (x == p) (q == p) (row_in xs p) (row-pushed xs q p)
  where
    by : (b c : Bool) (o : Option ℕ) → row_in (xs ++ q ∷ []) p ≡ or_else o (if c then Some (length xs) else None)
        → (if b then Some 0 else option_map (λ row. suc row) (row_in (xs ++ q ∷ []) p)) ≡ or_else (if b then Some 0 else option_map (λ row. suc row) o) (if c then Some (length (x ∷ xs)) else None)
    by true c o h = refl
    by false true None h = ap (option_map (λ row. suc row)) h
    by false false None h = ap (option_map (λ row. suc row)) h
    by false c (Some i) h = ap (option_map (λ row. suc row)) h

-- an earlier row stays where it is
pub row_kept : (xs : List ℕ) (q p i : ℕ) → row_in xs p ≡ Some i → row_in (xs ++ q ∷ []) p ≡ Some i
row_kept xs q p i h = row-pushed xs q p ∙ ap (λ o. or_else o (if q == p then Some (length xs) else None)) h

-- a place that had no row has the last one
pub row_last : (xs : List ℕ) (q : ℕ) → row_in xs q ≡ None → row_in (xs ++ q ∷ []) q ≡ Some (length xs)
row_last xs q h =
    row-pushed xs q q ∙ ap (λ o. or_else o (if q == q then Some (length xs) else None)) h ∙ ap (λ b. if b then Some (length xs) else None) (eq-eqb q q refl)

-- the row of another place
row-other : (xs : List ℕ) (q p : ℕ) → (q == p) ≡ false → row_in (xs ++ q ∷ []) p ≡ row_in xs p
row-other xs q p n = row-pushed xs q p ∙ ap (λ b. or_else (row_in xs p) (if b then Some (length xs) else None)) n ∙ none (row_in xs p)
  where
    none : (o : Option ℕ) → or_else o None ≡ o
    none None = refl
    none (Some i) = refl

-- ---- Places that rise

-- what a search finds
pub found_row : (xs : List ℕ) (p i : ℕ) → Rise xs → i < length xs → get_or xs i 0 ≡ p → row_in xs p ≡ Some i
found_row xs p i rise l e = row-first xs i p l e (λ k h q. let u : get_or xs k 0 < get_or xs i 0 = rise k i h l in absurd (omega (arith, u, e, q)))

-- they don't fall
pub rise_slowly : (xs : List ℕ) → Rise xs → (i j : ℕ) → i ≤ j → j < length xs → get_or xs i 0 ≤ get_or xs j 0
rise_slowly xs rise i j h l = elim (cases_order i j) [
  | inl q ↦ subst (λ k. get_or xs i 0 ≤ get_or xs k 0) q (omega arith)
  | inr o ↦ elim o [
    | inl m ↦ let u = rise i j m l in omega (arith, u)
    | inr m ↦ absurd (omega arith)
  ]
]

-- nothing is found where those before it are lower, and the others higher
pub none_found : (xs : List ℕ) (p i : ℕ) → ((k : ℕ) → k < i → get_or xs k 0 < p) → ((k : ℕ) → i ≤ k → k < length xs → p < get_or xs k 0) → row_in xs p ≡ None
none_found xs p i low high = no_row xs p (λ k l q. elim (cases_lt k i) [
  | inl m ↦ let u = low k m in absurd (omega (arith, u, q))
  | inr m ↦ let u = high k m l in absurd (omega (arith, u, q))
])

-- a place past them has no row
pub past_row : (n : ℕ) (xs : List ℕ) (rows : ℕ) → AreOrdered n xs rows → row_in xs n ≡ None
past_row n xs rows o = no_row xs n (λ k l q. let u = o.below k l in absurd (omega (arith, u, q)))

pub none_ordered : AreOrdered 0 [] 0
none_ordered = record { rise = λ i j h l. absurd (omega arith); below = λ i l. absurd (omega arith); whole = refl }

-- below a higher bound
pub ordered_more : (n : ℕ) (xs : List ℕ) (rows : ℕ) → AreOrdered n xs rows → AreOrdered (suc n) xs rows
ordered_more n xs rows o = record { rise = o.rise; below = λ i l. let u = o.below i l in omega (arith, u); whole = o.whole }

-- with one more place
pub ordered_push : (n : ℕ) (xs : List ℕ) (rows : ℕ) → AreOrdered n xs rows → AreOrdered (suc n) (xs ++ n ∷ []) (suc rows)
ordered_push n xs rows o = record {
  rise = λ i j h l. elim (cases_lt j (length xs)) [
    | inl m ↦
        let u = o.rise i j h m in
        let a : get_or (xs ++ n ∷ []) i 0 ≡ get_or xs i 0 = get_or_append_left xs (n ∷ []) 0 i (omega arith) in
        let b : get_or (xs ++ n ∷ []) j 0 ≡ get_or xs j 0 = get_or_append_left xs (n ∷ []) 0 j m in
        omega (arith, u, a, b)
    | inr m ↦
        let size : length (xs ++ n ∷ []) ≡ length xs + 1 = length-append xs (n ∷ []) in
        let last : length xs ≡ j = omega arith in
        let u = o.below i (omega arith) in
        let a : get_or (xs ++ n ∷ []) i 0 ≡ get_or xs i 0 = get_or_append_left xs (n ∷ []) 0 i (omega arith) in
        let b : get_or (xs ++ n ∷ []) j 0 ≡ n = get_or_at xs n [] 0 j last in
        omega (arith, u, a, b)
  ];
  below = λ i l. elim (cases_lt i (length xs)) [
    | inl m ↦
        let u = o.below i m in
        let a : get_or (xs ++ n ∷ []) i 0 ≡ get_or xs i 0 = get_or_append_left xs (n ∷ []) 0 i m in
        omega (arith, u, a)
    | inr m ↦
        let size : length (xs ++ n ∷ []) ≡ length xs + 1 = length-append xs (n ∷ []) in
        let last : length xs ≡ i = omega arith in
        let b : get_or (xs ++ n ∷ []) i 0 ≡ n = get_or_at xs n [] 0 i last in
        omega (arith, b)
  ];
  whole = let w = o.whole in let size : length (xs ++ n ∷ []) ≡ length xs + 1 = length-append xs (n ∷ []) in omega (arith, w, size);
}

-- ---- Calls by places

-- what is kept in an earlier row
kept-left : (xs ys : List ℕ) (i : ℕ) → i < length xs → slice_get (xs ++ ys) i ≡ slice_get xs i
kept-left xs ys i l =
    let size : length (xs ++ ys) ≡ length xs + length ys = length-append xs ys in
    slice_get-get_or (xs ++ ys) i 0 (omega arith) ∙ ap Some (get_or_append_left xs ys 0 i l) ∙ sym (slice_get-get_or xs i 0 l)

-- and in the last one
kept-last : (xs : List ℕ) (x i : ℕ) → length xs ≡ i → slice_get (xs ++ x ∷ []) i ≡ Some x
kept-last xs x i l =
    let size : length (xs ++ x ∷ []) ≡ length xs + 1 = length-append xs (x ∷ []) in
    slice_get-get_or (xs ++ x ∷ []) i 0 (omega arith) ∙ ap Some (get_or_at xs x [] 0 i l)

-- the call of an event with one more call, of the event at place n
calls-pushed : (n call : ℕ) (places calls : List ℕ) → AreOrdered n places (length calls) → (p : ℕ)
    → kept_in (calls ++ call ∷ []) (row_in (places ++ n ∷ []) p) ≡ (if n == p then Some call else kept_in calls (row_in places p))
calls-pushed n call places calls o p = elim (cases_Bool (n == p)) [
  | inl y ↦
      let q : n ≡ p = eqb-true n p y in
      let row : row_in (places ++ n ∷ []) p ≡ Some (length places) = subst (λ k. row_in (places ++ n ∷ []) k ≡ Some (length places)) q (row_last places n (past_row n places (length calls) o)) in
      ap (kept_in (calls ++ call ∷ [])) row ∙ kept-last calls call (length places) o.whole ∙ sym (ap (λ b. if b then Some call else kept_in calls (row_in places p)) y)
  | inr f ↦
      ap (kept_in (calls ++ call ∷ [])) (row-other places n p f) ∙ same (row_in places p) refl ∙ sym (ap (λ b. if b then Some call else kept_in calls (row_in places p)) f)
]
  where
    same : (r : Option ℕ) → row_in places p ≡ r → kept_in (calls ++ call ∷ []) r ≡ kept_in calls r
    same None h = refl
    same (Some i) h = let l = (row_has places p i h).0 in let w = o.whole in kept-left calls (call ∷ []) i (omega (arith, l, w))

-- no call is of the event at a place past them
calls-past : (n : ℕ) (places calls : List ℕ) → AreOrdered n places (length calls) → (p : ℕ) → kept_in calls (row_in places p) ≡ (if n == p then None else kept_in calls (row_in places p))
calls-past n places calls o p = elim (cases_Bool (n == p)) [
  | inl y ↦
      let q : n ≡ p = eqb-true n p y in
      ap (kept_in calls) (subst (λ k. row_in places k ≡ None) q (past_row n places (length calls) o)) ∙ sym (ap (λ b. if b then None else kept_in calls (row_in places p)) y)
  | inr f ↦ sym (ap (λ b. if b then None else kept_in calls (row_in places p)) f)
]

-- with one more event, if there is a call for it
pub calls_more : (n : ℕ) (call : Option ℕ) (old new : CallPlaces) → AreOrdered n old.places.items (length old.calls.items) → new.places.items ≡ grown call n old.places.items
    → new.calls.items ≡ with_call call old.calls.items
    → AreOrdered (suc n) new.places.items (length new.calls.items) × ((p : ℕ) → call_in new p ≡ (if n == p then call else call_in old p))
calls_more n call old new o a b =
    subst (λ xs. AreOrdered (suc n) xs (length new.calls.items) × ((p : ℕ) → kept_in new.calls.items (row_in xs p) ≡ (if n == p then call else call_in old p))) (sym a)
    (subst (λ ys. AreOrdered (suc n) (grown call n old.places.items) (length ys) × ((p : ℕ) → kept_in ys (row_in (grown call n old.places.items) p) ≡ (if n == p then call else call_in old p))) (sym b)
    (by call))
  where
    by : (call : Option ℕ)
        → AreOrdered (suc n) (grown call n old.places.items) (length (with_call call old.calls.items))
        × ((p : ℕ) → kept_in (with_call call old.calls.items) (row_in (grown call n old.places.items) p) ≡ (if n == p then call else call_in old p))
    by None = (ordered_more n old.places.items (length old.calls.items) o, calls-past n old.places.items old.calls.items o)
    by (Some c) =
        let size : suc (length old.calls.items) ≡ length (old.calls.items ++ c ∷ []) = (let s : length (old.calls.items ++ c ∷ []) ≡ length old.calls.items + 1 = length-append old.calls.items (c ∷ []) in omega arith) in (
          subst (AreOrdered (suc n) (old.places.items ++ n ∷ [])) size (ordered_push n old.places.items (length old.calls.items) o),
          calls-pushed n c old.places.items old.calls.items o,
        )

-- ---- A search

-- what a search among places that rise finds is the row
pub search_found : (xs : List ℕ) (p i : ℕ) (r : Result ℕ ℕ) → IsBinarySearchResult (λ y. nat_cmp y p) xs r → r ≡ Ok i → Rise xs → Some i ≡ row_in xs p
search_found xs p i (Ok j) h q rise =
    let t = searched xs p (Ok j) h (rise_slowly xs rise) in
    let s : j ≡ i = cc in
    ap Some (sym s) ∙ sym (found_row xs p j rise t.0 t.1)
search_found xs p i (Err j) h q rise = cc

-- where it finds none, there is none
pub search_none : (xs : List ℕ) (p i : ℕ) (r : Result ℕ ℕ) → IsBinarySearchResult (λ y. nat_cmp y p) xs r → r ≡ Err i → Rise xs → None ≡ row_in xs p
search_none xs p i (Ok j) h q rise = cc
search_none xs p i (Err j) h q rise =
    let t = searched xs p (Err j) h (rise_slowly xs rise) in
    sym (none_found xs p j t.1 t.2)
