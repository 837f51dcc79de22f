-- Totals over views.
-- By induction on the views.
use Rattle.std.proofs.Common.{◌≡◌, ◌≢◌, ℕ, zero, suc, ◌+◌, ◌≤◌, List, [], ◌∷◌, ◌++◌, set, sym, refl, ap, arith}
use mathlib.Core.Option.{some, some-injective, some-ne-none}
use lib.ListN.{get_elem?}
use Rattle.turn_lock.specs.declared.view.View.{View}
use Rattle.turn_lock.specs.Rule.{total}

module _ (f : View → ℕ) where
  pub total_set : (vs : List View) (i : ℕ) (v w : View) → get_elem? vs i ≡ some v → total f (set vs i w) + f v ≡ total f vs + f w
  total_set [] i v w e = absurd (some-ne-none v (sym e))
  total_set (x ∷ xs) zero v w e = let s : f x ≡ f v = ap f (some-injective x v e) in omega arith
  total_set (x ∷ xs) (suc i) v w e = let ih = total_set xs i v w e in omega arith

  pub total_snoc : (vs : List View) (w : View) → total f (vs ++ w ∷ []) ≡ total f vs + f w
  total_snoc [] w = omega arith
  total_snoc (x ∷ xs) w = let ih = total_snoc xs w in omega arith

  pub total_one : (vs : List View) (i : ℕ) (v : View) → get_elem? vs i ≡ some v → f v ≤ total f vs
  total_one [] i v e = absurd (some-ne-none v (sym e))
  total_one (x ∷ xs) zero v e = let s : f x ≡ f v = ap f (some-injective x v e) in omega arith
  total_one (x ∷ xs) (suc i) v e = let ih = total_one xs i v e in omega arith

  pub total_two : (vs : List View) (i j : ℕ) (v w : View) → get_elem? vs i ≡ some v → get_elem? vs j ≡ some w → i ≢ j → f v + f w ≤ total f vs
  total_two [] i j v w e h n = absurd (some-ne-none v (sym e))
  total_two (x ∷ xs) zero zero v w e h n = absurd (n refl)
  total_two (x ∷ xs) zero (suc j) v w e h n = let s : f x ≡ f v = ap f (some-injective x v e) in let o = total_one xs j w h in omega arith
  total_two (x ∷ xs) (suc i) zero v w e h n = let s : f x ≡ f w = ap f (some-injective x w h) in let o = total_one xs i v e in omega arith
  total_two (x ∷ xs) (suc i) (suc j) v w e h n = let ih = total_two xs i j v w e h (λ s. n (ap suc s)) in omega arith

  total_none : (vs : List View) → ((j : ℕ) (u : View) → get_elem? vs j ≡ some u → f u ≡ 0) → total f vs ≡ 0
  total_none [] h = refl
  total_none (x ∷ xs) h = let ih = total_none xs (λ j u g. h (suc j) u g) in let o = h zero x refl in omega arith

  -- where each other view has none, the total is one view's
  pub total_only : (vs : List View) (i : ℕ) (v : View) → get_elem? vs i ≡ some v → ((j : ℕ) (u : View) → j ≢ i → get_elem? vs j ≡ some u → f u ≡ 0) → total f vs ≡ f v
  total_only [] i v e h = absurd (some-ne-none v (sym e))
  total_only (x ∷ xs) zero v e h = let s : f x ≡ f v = ap f (some-injective x v e) in let o = total_none xs (λ j u g. h (suc j) u (λ z. absurd (omega arith)) g) in omega arith
  total_only (x ∷ xs) (suc i) v e h = let ih = total_only xs i v e (λ j u n g. h (suc j) u (λ z. n (omega arith)) g) in let o = h zero x (λ z. absurd (omega arith)) refl in omega arith

pub total_le : (f g : View → ℕ) (vs : List View) → ((j : ℕ) (v : View) → get_elem? vs j ≡ some v → f v ≤ g v) → total f vs ≤ total g vs
total_le f g [] h = omega arith
total_le f g (x ∷ xs) h = let ih = total_le f g xs (λ j v e. h (suc j) v e) in let o = h zero x refl in omega arith
