-- What is counted in a place, when one more place of another state was gone through; and the key that was found in a place.
-- By whether there is a bound, and whether the place is that of the one more.
use Rattle.std.proofs.Common.{◌≡◌, ℕ, zero, suc, ◌+◌, ◌-◌, ◌<◌, ◌≤◌, Bool, true, false, List, [], ◌∷◌, length, get_or, map, take, Some, None, refl, sym, ap, ◌∙◌, subst, arith, add-one}
use Rattle.std.specs.Prelude.{◌==◌, if◌then◌else◌, nat_lt}
use Rattle.std.proofs.lemmas.Bool.Decides.{nat_tests}
use Rattle.std.proofs.lemmas.List.{get_or-map, get_or_read, take_all}
use Rattle.explorer.specs.Joining.{CountsMore, coming_from, place_of, shifted}
use Rattle.explorer.specs.declared.state.Bound.{Bound}

one_taken : (xs : List ℕ) (n i : ℕ) → n < length xs → get_or (take (suc n) xs) i 0 ≡ get_or (take n xs) i 0 + (if i == n then get_or xs n 0 else 0)
one_taken [] n i l = absurd (omega (arith, l))
one_taken (x ∷ xs) zero zero l = omega arith
one_taken (x ∷ xs) zero (suc i) l = let other : (suc i == 0) ≡ false = grind (arith, nat_tests) in rw other refl
one_taken (x ∷ xs) (suc n) zero l = let other : (0 == suc n) ≡ false = grind (arith, nat_tests) in rw other (omega arith)
one_taken (x ∷ xs) (suc n) (suc i) l =
    let same : (suc i == suc n) ≡ (i == n) = grind (arith, nat_tests) in
    rw same (one_taken xs n i (omega (arith, l)))

module _ (most delays n i : ℕ) (from : List ℕ) (l : n < length from) where
  -- within the bound
  shifted_more : n + delays ≤ most → shifted most delays (take (suc n) from) i ≡ shifted most delays (take n from) i + (if i == n + delays then get_or from n 0 else 0)
  shifted_more m = by (nat_lt most i) (nat_lt i delays) refl refl
    where
      by : (a b : Bool) → nat_lt most i ≡ a → nat_lt i delays ≡ b → shifted most delays (take (suc n) from) i ≡ shifted most delays (take n from) i + (if i == n + delays then get_or from n 0 else 0)
      by true b e f = let other : (i == n + delays) ≡ false = grind (arith, nat_tests) in rw (e, other) refl
      by false true e f = let other : (i == n + delays) ≡ false = grind (arith, nat_tests) in rw (e, f, other) refl
      by false false e f = let same : (i == n + delays) ≡ (i - delays == n) = grind (arith, nat_tests) in rw (e, f, same) (one_taken from n (i - delays) l)

  -- or not
  shifted_over : most < n + delays → shifted most delays (take (suc n) from) i ≡ shifted most delays (take n from) i
  shifted_over m = by (nat_lt most i) (nat_lt i delays) refl refl
    where
      by : (a b : Bool) → nat_lt most i ≡ a → nat_lt i delays ≡ b → shifted most delays (take (suc n) from) i ≡ shifted most delays (take n from) i
      by true b e f = rw e refl
      by false true e f = rw (e, f) refl
      by false false e f =
          let other : (i - delays == n) ≡ false = grind (arith, nat_tests) in
          let none : get_or (take (suc n) from) (i - delays) 0 ≡ get_or (take n from) (i - delays) 0 + 0 = one_taken from n (i - delays) l ∙ rw other refl in
          rw (e, f) (omega (arith, none))

-- they are counted in a place
pub counted_more : (b : Bound) (delays n i : ℕ) (from : List ℕ) → n < length from → (p : ℕ) → place_of b n delays ≡ Some p
    → coming_from b delays (take (suc n) from) i ≡ coming_from b delays (take n from) i + (if i == p then get_or from n 0 else 0)
counted_more b delays n i from l p e = by b.is_meant refl (nat_lt b.most (n + delays)) refl
  where
    by : (m : Bool) → b.is_meant ≡ m → (t : Bool) → nat_lt b.most (n + delays) ≡ t
        → coming_from b delays (take (suc n) from) i ≡ coming_from b delays (take n from) i + (if i == p then get_or from n 0 else 0)
    by false q t f = let here : Some n ≡ Some p = rw q at e in let same : n ≡ p = cc in rw (q, ← same) (one_taken from n i l)
    by true q true f = let here : None ≡ Some p = rw (q, f) at e in absurd cc
    by true q false f =
        let here : Some (n + delays) ≡ Some p = rw (q, f) at e in
        let same : n + delays ≡ p = cc in
        let within : n + delays ≤ b.most = grind (arith, nat_tests) in
        rw (q, ← same) (shifted_more b.most delays n i from l within)

-- or passed over
pub passed_over : (b : Bound) (delays n i : ℕ) (from : List ℕ) → n < length from → place_of b n delays ≡ None → coming_from b delays (take (suc n) from) i ≡ coming_from b delays (take n from) i
passed_over b delays n i from l e = by b.is_meant refl (nat_lt b.most (n + delays)) refl
  where
    by : (m : Bool) → b.is_meant ≡ m → (t : Bool) → nat_lt b.most (n + delays) ≡ t → coming_from b delays (take (suc n) from) i ≡ coming_from b delays (take n from) i
    by false q t f = let here : Some n ≡ None = rw q at e in absurd cc
    by true q true f = let over : b.most < n + delays = grind (arith, nat_tests) in rw q (shifted_over b.most delays n i from l over)
    by true q false f = let here : Some (n + delays) ≡ None = rw (q, f) at e in absurd cc

-- ---- All of them

module _ (b : Bound) (delays n : ℕ) (from old mid new : List ℕ) (so_far : CountsMore b delays (take n from) old mid) where
  pub place_counted : n < length from → (p : ℕ) → place_of b n delays ≡ Some p → (x : ℕ) → x ≡ get_or from n x → ((i : ℕ) → get_or new i 0 ≡ get_or mid i 0 + (if i == p then x else 0))
      → CountsMore b delays (take (n + 1) from) old new
  place_counted l p e x is c i =
      let here : (if i == p then x else 0) ≡ (if i == p then get_or from n 0 else 0) = ap (λ (m : ℕ). if i == p then m else 0) (get_or_read from n x l is 0) in
      rw add-one (omega (arith, c i, so_far i, here, counted_more b delays n i from l p e))

  pub place_passed : n < length from → place_of b n delays ≡ None → CountsMore b delays (take (n + 1) from) old mid
  place_passed l e i = rw add-one (omega (arith, so_far i, passed_over b delays n i from l e))

  pub all_counted : length from ≤ n → CountsMore b delays from old mid
  all_counted l = subst (λ (xs : List ℕ). CountsMore b delays xs old mid) (take_all n from l) so_far

-- ---- A key

pub key_there : {V : Type 0} (f : V → List ℕ) (keys : List V) (place : ℕ) (x : V) (key : List ℕ) → place < length keys → x ≡ get_or keys place x → f x ≡ key
    → (k : List ℕ) → get_or (map f keys) place k ≡ key
key_there f keys place x key l is same k = get_or-map f keys place x k l ∙ (ap f (sym is) ∙ same)
