-- Entries whose numbers rise: what is there after one was set or removed.
-- By the laws of lists after a write, an insert or a removal, and by induction on the entries.
use Rattle.std.proofs.Common.{◌≡◌, ◌≢◌, inl, inr, ℕ, zero, suc, ◌+◌, ◌-◌, ◌<◌, ◌≤◌, Bool, true, false, List, [], ◌∷◌, length, get_or, set, take, drop, Option, Some, None, refl, sym, ap, subst, ◌∙◌, arith, get_or-set_other, get_or-set_same}
use Rattle.std.specs.Prelude.{◌==◌, if◌then◌else◌}
use Rattle.std.specs.List.{insert, remove, sum_by}
use Rattle.std.proofs.lemmas.Bool.{cases_eq, eq-eqb, ne_eqb, eqb-true}
use Rattle.std.proofs.lemmas.Bool.Decides.{nat_tests}
use Rattle.std.proofs.lemmas.List.{length-set}
use Rattle.std.proofs.lemmas.List.Edits.{length-insert, get_or-insert_below, get_or-insert_at, get_or-insert_above, length-remove, get_or-remove_below, get_or-remove_above}
use Rattle.std.proofs.lemmas.List.Sums.{sum_by-cons, sum_by-append, sum_by-set, sum_by-take-drop}
use Rattle.sorted_list.specs.Entries.{NumbersRise, entry_for, IsPlaceOf, IsGapFor, IsSet, at_some}
use Rattle.sorted_list.proofs.Found.{NoneBefore, none-tail, rise-tail, none-absent, none-before, gap-before, place-entry, gap-entry}

module _ {T : Type 0} (number : T → ℕ) where
  -- each number has the entry that it had, and this one another
  abbrev Entries : List T → ℕ → Option T → List T → Type 0
  Entries old n y new = (m : ℕ) → entry_for number new m ≡ (if m == n then y else entry_for number old m)

  -- the same after an entry with another number
  entries-cons : (x : T) (old new : List T) (n : ℕ) (y : Option T) → number x ≢ n → Entries old n y new → Entries (x ∷ old) n y (x ∷ new)
  unfolding entry_for
  entries-cons x old new n y d h m = elim (cases_eq m n) [
    | inl q ↦ rw (ne_eqb (number x) m (λ z. d (z ∙ q)), h m, eq-eqb m n q)
    | inr q ↦ rw (ne_eqb m n q, h m, ne_eqb m n q)
  ]

  pub entries-insert : (xs : List T) (i : ℕ) (e : T) → NoneBefore number xs (number e) i → Entries xs (number e) (Some e) (insert xs i e)
  unfolding entry_for
  entries-insert xs zero e h m = grind (arith, nat_tests)
  entries-insert [] (suc i) e h m = grind (arith, nat_tests)
  entries-insert (x ∷ xs) (suc i) e h m = entries-cons x xs (insert xs i e) (number e) (Some e) (h 0 x (omega arith)) (entries-insert xs i e (none-tail number x xs (number e) i h)) m

  pub entries-set : (xs : List T) (i : ℕ) (e : T) → i < length xs → ((d : T) → number (get_or xs i d) ≡ number e) → NoneBefore number xs (number e) i → Entries xs (number e) (Some e) (set xs i e)
  unfolding entry_for
  entries-set [] i e l q h m = absurd (omega arith)
  entries-set (x ∷ xs) zero e l q h m = let a : number x ≡ number e = q x in elim (cases_eq m (number e)) [
    | inl z ↦ rw (eq-eqb m (number e) z, eq-eqb (number e) m (sym z))
    | inr z ↦ rw (ne_eqb m (number e) z, ne_eqb (number e) m (λ y. z (sym y)), ne_eqb (number x) m (λ y. z (sym y ∙ a)))
  ]
  entries-set (x ∷ xs) (suc i) e l q h m =
      entries-cons x xs (set xs i e) (number e) (Some e) (h 0 x (omega arith)) (entries-set xs i e (omega arith) q (none-tail number x xs (number e) i h)) m

  pub entries-remove : (xs : List T) (n i : ℕ) → NumbersRise number xs → IsPlaceOf number xs n i → NoneBefore number xs n i → Entries xs n None (remove xs i)
  unfolding entry_for
  entries-remove [] n i r p h m = absurd (omega (arith, p.within))
  entries-remove (x ∷ xs) n zero r p h m = elim (cases_eq m n) [
    | inl z ↦ rw (eq-eqb m n z) (none-absent number xs m (λ k d l q. omega (arith, r 0 (suc k) d (omega arith) (omega arith), p.here x, q, z)))
    | inr z ↦ rw (ne_eqb m n z, ne_eqb (number x) m (λ y. z (sym y ∙ p.here x)))
  ]
  entries-remove (x ∷ xs) n (suc i) r p h m =
      let t : IsPlaceOf number xs n i = record { within = omega (arith, p.within); here = p.here } in
      entries-cons x xs (remove xs i) n None (h 0 x (omega arith)) (entries-remove xs n i (rise-tail number x xs r) t (none-tail number x xs n i h)) m

  -- the number at each place, when an entry is put in place of one with its number
  same-number : (xs : List T) (i : ℕ) (e : T) (k : ℕ) (d : T) → i < length xs → ((f : T) → number (get_or xs i f) ≡ number e) → number (get_or (set xs i e) k d) ≡ number (get_or xs k d)
  same-number xs i e k d l h = elim (cases_eq k i) [
    | inl q ↦ rw q (rw get_or-set_same (sym (h d)))
    | inr q ↦ rw get_or-set_other
  ]

  rise-set : (xs : List T) (i : ℕ) (e : T) → NumbersRise number xs → i < length xs → ((d : T) → number (get_or xs i d) ≡ number e) → NumbersRise number (set xs i e)
  rise-set xs i e r b h j k d l m = rw (same-number xs i e j d b h, same-number xs i e k d b h) (r j k d l (omega (arith, length-set xs i e)))

  rise-insert : (xs : List T) (i : ℕ) (e : T) → NumbersRise number xs → IsGapFor number xs (number e) i → NumbersRise number (insert xs i e)
  rise-insert xs i e r g j k d l m =
      let new = insert xs i e in
      let b : i ≤ length xs = g.within in
      let n = length-insert xs i e b in
      let below : (v : ℕ) → v < i → number (get_or new v d) ≡ number (get_or xs v d) = λ v o. ap number (get_or-insert_below xs i e d v o b) in
      let here : (v : ℕ) → v ≡ i → number (get_or new v d) ≡ number e = λ v o. rw o (ap number (get_or-insert_at xs i e d b)) in
      let above : (v : ℕ) → i < v → number (get_or new v d) ≡ number (get_or xs (v - 1) d) = λ v o. subst (λ w. number (get_or new w d) ≡ number (get_or xs (v - 1) d)) {x = v - 1 + 1} (omega arith) (ap number (get_or-insert_above xs i e d (v - 1) (omega arith) b)) in
      grind (arith, below j, here j, above j, below k, here k, above k, r j k d, r j (k - 1) d, r (j - 1) (k - 1) d, g.lower j d, g.higher (k - 1) d)

  rise-remove : (xs : List T) (i : ℕ) → NumbersRise number xs → i < length xs → NumbersRise number (remove xs i)
  rise-remove xs i r b j k d l m =
      let n = length-remove xs i b in
      let below : (v : ℕ) → v < i → number (get_or (remove xs i) v d) ≡ number (get_or xs v d) = λ v o. ap number (get_or-remove_below xs i d v o b) in
      let above : (v : ℕ) → i ≤ v → number (get_or (remove xs i) v d) ≡ number (get_or xs (v + 1) d) = λ v o. ap number (get_or-remove_above xs i d v o b) in
      grind (arith, below j, above j, below k, above k, r j k d, r j (k + 1) d, r (j + 1) (k + 1) d)

  pub set-over : (xs : List T) (i : ℕ) (e : T) → NumbersRise number xs → IsPlaceOf number xs (number e) i → IsSet number xs (number e) (Some e) (set xs i e)
  set-over xs i e r p = record { rise = rise-set xs i e r p.within p.here; entries = entries-set xs i e p.within p.here (none-before number xs (number e) i r p) }

  pub set-between : (xs : List T) (i : ℕ) (e : T) → NumbersRise number xs → IsGapFor number xs (number e) i → IsSet number xs (number e) (Some e) (insert xs i e)
  set-between xs i e r g = record { rise = rise-insert xs i e r g; entries = entries-insert xs i e (gap-before number xs (number e) i g) }

  pub set-none : (xs : List T) (n i : ℕ) → NumbersRise number xs → IsPlaceOf number xs n i → IsSet number xs n None (remove xs i)
  set-none xs n i r p = record { rise = rise-remove xs i r p.within; entries = entries-remove xs n i r p (none-before number xs n i r p) }

  -- a number that has no entry loses none
  pub none-removed : (xs : List T) (n i : ℕ) → NumbersRise number xs → IsGapFor number xs n i → IsSet number xs n None xs
  none-removed xs n i r g = record { rise = r; entries = λ m. same m (m == n) refl }
    where
      same : (m : ℕ) (b : Bool) → (m == n) ≡ b → entry_for number xs m ≡ (if b then None else entry_for number xs m)
      same m true q = ap (entry_for number xs) (eqb-true m n q) ∙ gap-entry number xs n i g
      same m false q = refl

  pub sum-over : (f : T → ℕ) (xs : List T) (i : ℕ) (e : T) → NumbersRise number xs → IsPlaceOf number xs (number e) i → sum_by f (set xs i e) + at_some f (entry_for number xs (number e)) ≡ sum_by f xs + f e
  sum-over f xs i e r p = rw (place-entry number xs (number e) i e r p) (sum_by-set f xs i e e p.within)

  pub sum-between : (f : T → ℕ) (xs : List T) (i : ℕ) (e : T) → IsGapFor number xs (number e) i → sum_by f (insert xs i e) + at_some f (entry_for number xs (number e)) ≡ sum_by f xs + f e
  sum-between f xs i e g = rw (gap-entry number xs (number e) i g)
      (omega (arith, sum_by-append f (take i xs) (e ∷ drop i xs), sum_by-cons f e (drop i xs), sum_by-take-drop f xs i))
