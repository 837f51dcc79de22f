-- Which of two paths comes first is an order: by how much was left in the end, and then by where more was left first.
-- By induction on what was left turn by turn.
use Rattle.std.proofs.Common.{◌≡◌, inl, inr, ℕ, ◌-◌, ◌<◌, ◌≤◌, Bool, true, false, List, [], ◌∷◌, ◌++◌, length, refl, ◌∙◌, subst, arith}
use Rattle.std.specs.Prelude.{◌==◌}
use Rattle.std.proofs.lemmas.Bool.{cases_eq}
use Rattle.std.proofs.lemmas.Bool.Decides.{nat_tests}
use Rattle.explorer.specs.Paths.{is_before, is_first}

-- none is before itself
pub before_self : (xs : List ℕ) → is_before xs xs ≡ false
before_self [] = refl
before_self (x ∷ xs) = let e : (x == x) ≡ true = grind (arith, nat_tests) in rw e (before_self xs)

pub before_next : (xs ys zs : List ℕ) → is_before xs ys ≡ true → is_before ys zs ≡ true → is_before xs zs ≡ true
before_next [] (y ∷ ys) (z ∷ zs) p q = refl
before_next (x ∷ xs) (y ∷ ys) (z ∷ zs) p q = let ih = before_next xs ys zs in grind (arith, nat_tests, ih)
before_next [] [] zs p q = cc
before_next (x ∷ xs) [] zs p q = cc
before_next xs (y ∷ ys) [] p q = cc

-- two of which neither is before the other are one
pub before_one : (xs ys : List ℕ) → is_before xs ys ≡ false → is_before ys xs ≡ false → xs ≡ ys
before_one [] [] p q = refl
before_one [] (y ∷ ys) p q = cc
before_one (x ∷ xs) [] p q = cc
before_one (x ∷ xs) (y ∷ ys) p q = let ih = before_one xs ys in grind (arith, nat_tests, ih)

-- one more at the end, as much for both, changes nothing
pub before_more : (xs ys : List ℕ) (l : ℕ) → length xs ≡ length ys → is_before (xs ++ l ∷ []) (ys ++ l ∷ []) ≡ is_before xs ys
before_more [] [] l e = before_self (l ∷ [])
before_more (x ∷ xs) (y ∷ ys) l e = let ih = before_more xs ys l (omega (arith, e)) in rw ih refl
before_more [] (y ∷ ys) l e = absurd (omega (arith, e))
before_more (x ∷ xs) [] l e = absurd (omega (arith, e))

-- ---- With how much was left in the end

module _ (a b c : ℕ) (xs ys zs : List ℕ) where
  pub first_next : is_first a xs b ys ≡ true → is_first b ys c zs ≡ true → is_first a xs c zs ≡ true
  first_next p q = grind (arith, nat_tests, before_next xs ys zs)

  -- what doesn't come before the second doesn't come before the first, where that comes before the second
  pub no_later_ahead : is_first a xs b ys ≡ true → is_first c zs b ys ≡ false → is_first c zs a xs ≡ false
  no_later_ahead p q = by (is_first c zs a xs) refl
    where
      by : (t : Bool) → is_first c zs a xs ≡ t → t ≡ false
      by false t = refl
      by true t = let both : is_first c zs b ys ≡ true = grind (arith, nat_tests, before_next zs xs ys) in cc

  -- and what doesn't come before the first doesn't come before the second, where the first doesn't come before that
  pub no_later_behind : is_first a xs b ys ≡ false → is_first c zs a xs ≡ false → is_first c zs b ys ≡ false
  no_later_behind p q = grind (arith, nat_tests, before_next zs ys xs, before_one xs ys)

-- as many delays more leave the order as it is
pub first_more : (a b l : ℕ) (xs ys : List ℕ) → l ≤ a → l ≤ b → length xs ≡ length ys → is_first a xs b ys ≡ false
    → is_first (a - l) (xs ++ (a - l) ∷ []) (b - l) (ys ++ (b - l) ∷ []) ≡ false
first_more a b l xs ys k m e p = elim (cases_eq a b) [
  | inl q ↦
      let before : is_before xs ys ≡ false = grind (arith, nat_tests) in
      subst (λ (x : ℕ). is_first (a - l) (xs ++ (a - l) ∷ []) (x - l) (ys ++ (x - l) ∷ []) ≡ false) q
      (let more : is_before (xs ++ (a - l) ∷ []) (ys ++ (a - l) ∷ []) ≡ false = before_more xs ys (a - l) e ∙ before in grind (arith, nat_tests))
  | inr d ↦ let less : a < b = grind (arith, nat_tests) in grind (arith, nat_tests)
]
