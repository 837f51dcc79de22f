-- Texts that are one where both their ends and what stands in front of these are.
-- By induction on the place where they are cut, and on both texts.
use Rattle.std.proofs.Common.{◌≡◌, ℕ, zero, suc, true, false, ◌&&◌, List, [], ◌∷◌, length, take, drop, refl, ap, ◌∙◌, arith}
use Rattle.std.specs.Prelude.{nat_eq, bytes_eq}
use Rattle.policy_eval.proofs.Prefixes.{and_false}

pub other_length : (a b : List ℕ) → (length a ≡ length b → ⊥) → bytes_eq a b ≡ false
other_length [] [] h = absurd (h refl)
other_length [] (y ∷ b) h = refl
other_length (x ∷ a) [] h = refl
other_length (x ∷ a) (y ∷ b) h = ap (λ r. nat_eq x y && r) (other_length a b (λ e. h (omega (arith, e)))) ∙ and_false (nat_eq x y)

pub other_end : (a b : List ℕ) (n : ℕ) → bytes_eq (drop n a) (drop n b) ≡ false → bytes_eq a b ≡ false
other_end a b zero h = h
other_end [] [] (suc n) h = h
other_end [] (y ∷ b) (suc n) h = refl
other_end (x ∷ a) [] (suc n) h = refl
other_end (x ∷ a) (y ∷ b) (suc n) h = ap (λ r. nat_eq x y && r) (other_end a b n h) ∙ and_false (nat_eq x y)

pub same_end : (a b : List ℕ) (n : ℕ) → bytes_eq (drop n a) (drop n b) ≡ true → bytes_eq a b ≡ bytes_eq (take n a) (take n b)
same_end a b zero h = h
same_end [] [] (suc n) h = refl
same_end [] (y ∷ b) (suc n) h = refl
same_end (x ∷ a) [] (suc n) h = refl
same_end (x ∷ a) (y ∷ b) (suc n) h = ap (λ r. nat_eq x y && r) (same_end a b n h)
