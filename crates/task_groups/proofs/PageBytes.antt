-- The bytes of a page, of which the zeros at its end aren't kept.
-- By cases on whether a byte is kept.
use Rattle.std.proofs.Common.{◌≡◌, inl, inr, ℕ, zero, suc, ◌+◌, ◌-◌, ◌<◌, List, ◌++◌, length, get_or, take, drop, refl, sym, ap, ◌∙◌, arith, min}
use Rattle.std.specs.Prelude.{replicate}
use Rattle.std.proofs.lemmas.Bool.{cases_lt}
use Rattle.std.proofs.lemmas.List.{get_or-drop, get_or-take, get_or_append_left, get_or-append_right, get_or_past, length-take}

-- each byte of zeros
zero_of_zeros : (n i : ℕ) → ◌≡◌ {A = ℕ} (get_or (replicate {A = ℕ} n 0) i 0) 0
zero_of_zeros zero i = refl
zero_of_zeros (suc n) zero = refl
zero_of_zeros (suc n) (suc i) = zero_of_zeros n i

-- zeros after bytes are what they had there
pub zeros_behind : (xs : List ℕ) (n i : ℕ) → get_or (xs ++ replicate {A = ℕ} n 0) i 0 ≡ get_or xs i 0
zeros_behind xs n i = elim (cases_lt i (length xs)) [
  | inl l ↦ get_or_append_left xs (replicate n 0) 0 i l
  | inr l ↦ get_or-append_right xs (replicate n 0) (length xs) i 0 refl l ∙ zero_of_zeros n (i - length xs) ∙ sym (get_or_past xs i 0 l)
]

-- a byte of a part of a page, which ends where the page does
pub part_at : (page : List ℕ) (offset count end start i : ℕ) → end ≡ min (length page) (offset + count) → start ≡ min offset end → i < count
    → get_or (take (end - start) (drop start page)) i 0 ≡ get_or page (offset + i) 0
part_at page offset count end start i e s l = elim (cases_lt i (end - start)) [
  | inl q ↦
      let at : start + i ≡ offset + i = omega (arith, e, s) in
      get_or-take (end - start) (drop start page) i 0 q ∙ get_or-drop start page i 0 ∙ ap (λ j. get_or page j 0) at
  | inr q ↦ get_or_past (take (end - start) (drop start page)) i 0 (omega (arith, length-take (end - start) (drop start page))) ∙ sym (get_or_past page (offset + i) 0 (omega (arith, e, s)))
]
