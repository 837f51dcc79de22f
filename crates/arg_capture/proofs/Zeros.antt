-- Lemmas on where a text ends.
-- By induction on the bytes, by cases on whether the first is zero, and on whether the place found lies within them.
use Rattle.std.proofs.Common.{◌≡◌, ℕ, suc, ◌+◌, ◌≤◌, List, [], ◌∷◌, length, take, Some, None, refl, inl, inr, ap, ◌∙◌, arith}
use Rattle.std.specs.Prelude.{Option, true, false, not, ◌==◌, nat_lt, position}
use Rattle.std.specs.List.{prefix_len}
use Rattle.std.proofs.lemmas.Bool.{cases_Bool}
use Rattle.hist_model.specs.Copies.{has_zero, before_zero}

zero-within : (bytes : List ℕ) → has_zero bytes ≡ nat_lt (prefix_len (λ b. not (b == 0)) bytes) (length bytes)
zero-within [] = refl
zero-within (b ∷ more) = elim (cases_Bool (b == 0)) [
  | inl h ↦ rw h (grind arith)
  | inr h ↦ let ih = zero-within more in rw h (grind arith)
]

take-next : (n b : ℕ) (bytes : List ℕ) → take (1 + n) (b ∷ bytes) ≡ b ∷ take n bytes
take-next n b bytes = let e : 1 + n ≡ suc n = omega arith in rw e refl

zero-before : (bytes : List ℕ) → before_zero bytes ≡ take (prefix_len (λ b. not (b == 0)) bytes) bytes
zero-before [] = refl
zero-before (b ∷ more) = elim (cases_Bool (b == 0)) [
  | inl h ↦ rw h refl
  | inr h ↦ rw (h, take-next) (ap (λ bs. b ∷ bs) (zero-before more))
]

found : (bytes : List ℕ) (n : ℕ) → position (λ b. b == 0) bytes ≡ Some n → (has_zero bytes ≡ true) × (before_zero bytes ≡ take n bytes) × (n ≤ length bytes)
found bytes n e = elim (cases_Bool (nat_lt (prefix_len (λ b. not (b == 0)) bytes) (length bytes))) [
  | inl h ↦ let q : prefix_len (λ b. not (b == 0)) bytes ≡ n = some-same (rw h at e) in (zero-within bytes ∙ h, zero-before bytes ∙ ap (λ k. take k bytes) q, grind arith)
  | inr h ↦ absurd (none-not (rw h at e))
]
  where
    some-same : {a b : ℕ} → Some a ≡ Some b → a ≡ b
    some-same e = cc

    none-not : {b : ℕ} → ◌≡◌ {A = Option ℕ} None (Some b) → ⊥
    none-not e = cc

pub zero_found : (bytes : List ℕ) (n : ℕ) → position (λ b. b == 0) bytes ≡ Some n → has_zero bytes ≡ true
zero_found bytes n e = (found bytes n e).0

pub zero_place : (bytes : List ℕ) (n : ℕ) → position (λ b. b == 0) bytes ≡ Some n → before_zero bytes ≡ take n bytes
zero_place bytes n e = (found bytes n e).1

pub zero_missing : (bytes : List ℕ) → position (λ b. b == 0) bytes ≡ None → has_zero bytes ≡ false
zero_missing bytes e = elim (cases_Bool (nat_lt (prefix_len (λ b. not (b == 0)) bytes) (length bytes))) [
  | inl h ↦ absurd (some-not (rw h at e))
  | inr h ↦ zero-within bytes ∙ h
]
  where
    some-not : {b : ℕ} → ◌≡◌ {A = Option ℕ} (Some b) None → ⊥
    some-not e = cc
