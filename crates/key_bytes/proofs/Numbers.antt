-- A number of 64 bits is written as its eight bytes, and what is written of two numbers differs at once, or ends with them.
-- By reading the bytes again, and since what stands before any other number is no byte.
use Rattle.std.proofs.Common.{◌≡◌, ℕ, ◌<◌, ◌^◌, Bool, true, false, List, [], ◌∷◌, ◌++◌, length, refl, sym, ap, ap₂, ◌∙◌, arith}
use Rattle.std.specs.Prelude.{if◌then◌else◌, nat_lt}
use Rattle.std.specs.Int.{from_le_bytes, to_le_bytes, w64}
use Rattle.std.proofs.lemmas.Bool.{lt-ltb, ltb-true}
use Rattle.std.proofs.lemmas.Nat.{from_le_bytes-to_le_bytes_8}
use Rattle.key_bytes.specs.Parts.{Ends, number_part}

pub fitting_part : (n : ℕ) → n < 2 ^ 64 → number_part n ≡ to_le_bytes w64 n
unfolding number_part
fitting_part n l = rw (lt-ltb n (2 ^ 64) l) refl

-- lists of one length that begin equal ones are equal
pub split : {A : Type 0} (xs ys r s : List A) → length xs ≡ length ys → xs ++ r ≡ ys ++ s → (xs ≡ ys) × (r ≡ s)
split [] [] r s l q = (refl, q)
split [] (y ∷ ys) r s l q = absurd (omega arith)
split (x ∷ xs) [] r s l q = absurd (omega arith)
split (x ∷ xs) (y ∷ ys) r s l q =
    let h : x ≡ y = cc in
    let t : xs ++ r ≡ ys ++ s = cc in
    let more = split xs ys r s (omega arith) t in
    (ap₂ (λ z zs. z ∷ zs) h more.0, more.1)

eight : (n : ℕ) → length (to_le_bytes w64 n) ≡ 8
eight n = refl

-- the first of the bytes
first-byte : (n : ℕ) → (b : ℕ) × (more : List ℕ) × (to_le_bytes w64 n ≡ b ∷ more) × (b < 256)
first-byte n = (_, _, refl, omega arith)

-- bytes are no other number
no-other : (a b : ℕ) (r s : List ℕ) → to_le_bytes w64 a ++ r ≡ 256 ∷ b ∷ s → ⊥
no-other a b r s q =
    let f = first-byte a in
    let z : f.0 ∷ (f.1 ++ r) ≡ 256 ∷ b ∷ s = ap (λ (bytes : List ℕ). bytes ++ r) (sym f.2) ∙ q in
    let h : f.0 ≡ 256 = cc z in
    omega (arith, h, f.3)

ends-by : (a b : ℕ) (r s : List ℕ) (x y : Bool) → nat_lt a (2 ^ 64) ≡ x → nat_lt b (2 ^ 64) ≡ y
    → (if x then to_le_bytes w64 a else 256 ∷ a ∷ []) ++ r ≡ (if y then to_le_bytes w64 b else 256 ∷ b ∷ []) ++ s → (a ≡ b) × (r ≡ s)
ends-by a b r s true true l m q =
    let p = split (to_le_bytes w64 a) (to_le_bytes w64 b) r s (eight a ∙ sym (eight b)) q in
    (sym (from_le_bytes-to_le_bytes_8 a (ltb-true a (2 ^ 64) l)) ∙ (ap (from_le_bytes w64) p.0 ∙ from_le_bytes-to_le_bytes_8 b (ltb-true b (2 ^ 64) m)), p.1)
ends-by a b r s true false l m q = absurd (no-other a b r s q)
ends-by a b r s false true l m q = absurd (no-other b a s r (sym q))
ends-by a b r s false false l m q = let h : a ≡ b = cc q in let t : r ≡ s = cc q in (h, t)

pub number_ends : Ends number_part
unfolding number_part
number_ends a b r s q = ends-by a b r s (nat_lt a (2 ^ 64)) (nat_lt b (2 ^ 64)) refl refl q
