-- The fields of a structure in memory: what was written at an offset is read there, and what was read leads back to its bytes.
-- By what the library says of the bytes of one number, one field after the other.
use Rattle.std.specs.Prelude.{ℕ, zero, suc, ℤ, ◌+◌, ◌<◌, ◌≤◌, ◌^◌, List, [], ◌∷◌, ◌++◌, length, take, drop, get_or}
use Rattle.std.specs.Int.{w32, w64, from_le_bytes, cast_signed, cast_unsigned}
use Rattle.std.specs.Int.RustNames.{FitsSigned}
use Rattle.std.specs.List.{flat_map}
use Rattle.std.proofs.Common.{◌≡◌, ◌∙◌, refl, sym, ap, subst, arith}
use Rattle.std.proofs.lemmas.Int.{of_z-to_z, to_z-of_z, ints}
use Rattle.std.proofs.lemmas.Nat.{le_bytes_4, le_bytes_8, from_le_bytes-to_le_bytes_2, from_le_bytes-to_le_bytes_4, from_le_bytes-to_le_bytes_8}
use Rattle.std.proofs.lemmas.List.{get_or-take, get_or-drop, drop-drop, drop_more}
use Rattle.std.proofs.lemmas.Grind.{common_steps}
use Rattle.sys_abi.specs.Wire.{u16_at, u32_at, u64_at, u64s_at, i32_at, i64_at, u16_bytes, u32_bytes, u64_bytes, i32_bytes, i64_bytes}

-- ---- what was written is read

pub u16_first : (n : ℕ) (rest : List ℕ) → n < 2 ^ 16 → u16_at (u16_bytes n ++ rest) 0 ≡ n
unfolding u16_at
u16_first n rest h = from_le_bytes-to_le_bytes_2 n h

pub u32_first : (n : ℕ) (rest : List ℕ) → n < 2 ^ 32 → u32_at (u32_bytes n ++ rest) 0 ≡ n
unfolding u32_at
u32_first n rest h = from_le_bytes-to_le_bytes_4 n h

pub u64_first : (n : ℕ) (rest : List ℕ) → n < 2 ^ 64 → u64_at (u64_bytes n ++ rest) 0 ≡ n
unfolding u64_at
u64_first n rest h = from_le_bytes-to_le_bytes_8 n h

pub i32_first : (z : ℤ) (rest : List ℕ) → FitsSigned w32 z → i32_at (i32_bytes z ++ rest) 0 ≡ z
i32_first z rest h = ap (cast_signed w32) (u32_first (cast_unsigned w32 z) rest (omega (arith, ints))) ∙ to_z-of_z w32 z h

pub i64_first : (z : ℤ) (rest : List ℕ) → FitsSigned w64 z → i64_at (i64_bytes z ++ rest) 0 ≡ z
i64_first z rest h = ap (cast_signed w64) (u64_first (cast_unsigned w64 z) rest (omega (arith, ints))) ∙ to_z-of_z w64 z h

-- numbers that were written one after the other, wherever they begin
pub u64s_written : (bytes : List ℕ) (offset : ℕ) (xs rest : List ℕ) → ((i : ℕ) → get_or xs i 0 < 2 ^ 64) → drop offset bytes ≡ flat_map u64_bytes xs ++ rest → u64s_at bytes offset (length xs) ≡ xs
unfolding u64_at
u64s_written bytes offset [] rest h e = refl
u64s_written bytes offset (x ∷ xs) rest h e =
    let first : u64_at bytes offset ≡ x = ap (from_le_bytes w64) e ∙ from_le_bytes-to_le_bytes_8 x (h 0) in
    let after : drop (offset + 8) bytes ≡ flat_map u64_bytes xs ++ rest = sym (drop-drop 8 offset bytes) ∙ ap (drop 8) e in
    let others = u64s_written bytes (offset + 8) xs rest (λ i. h (suc i)) after in
    cc

-- ---- what was read leads back to its bytes

-- each is a byte
abbrev pub AreBytes : List ℕ → Type 0
AreBytes xs = (i : ℕ) → get_or xs i 0 < 256

bytes_before : (n : ℕ) (xs : List ℕ) → AreBytes xs → AreBytes (take n xs)
bytes_before zero xs h i = omega arith
bytes_before (suc n) [] h i = omega arith
bytes_before (suc n) (x ∷ xs) h zero = h 0
bytes_before (suc n) (x ∷ xs) h (suc i) = bytes_before n xs (λ k. h (suc k)) i

pub bytes_after : (n : ℕ) (xs : List ℕ) → AreBytes xs → AreBytes (drop n xs)
bytes_after n xs h i = rw (get_or-drop n xs i 0) (h (n + i))

-- the bytes of the number that a list begins with
u32_back : (xs : List ℕ) → AreBytes xs → 4 ≤ length xs → u32_bytes (from_le_bytes w32 xs) ≡ take 4 xs
u32_back xs h fits =
    let first : from_le_bytes w32 xs ≡ from_le_bytes w32 (take 4 xs) = grind (arith, get_or-take) in
    le_bytes_4 (take 4 xs) _ (grind (arith, common_steps)) (bytes_before 4 xs h) first

u64_back : (xs : List ℕ) → AreBytes xs → 8 ≤ length xs → u64_bytes (from_le_bytes w64 xs) ≡ take 8 xs
u64_back xs h fits =
    let first : from_le_bytes w64 xs ≡ from_le_bytes w64 (take 8 xs) = grind (arith, get_or-take) in
    le_bytes_8 (take 8 xs) _ (grind (arith, common_steps)) (bytes_before 8 xs h) first

u32_fits : (xs : List ℕ) → AreBytes xs → from_le_bytes w32 xs < 2 ^ 32
u32_fits xs h = omega (arith, h 0, h 1, h 2, h 3)

u64_fits : (xs : List ℕ) → AreBytes xs → from_le_bytes w64 xs < 2 ^ 64
u64_fits xs h = omega (arith, h 0, h 1, h 2, h 3, h 4, h 5, h 6, h 7)

-- the bytes of a field, before those of the fields after it
joined : (size offset : ℕ) (bytes field tail : List ℕ) → field ≡ take size (drop offset bytes) → tail ≡ drop (offset + size) bytes → field ++ tail ≡ drop offset bytes
joined size offset bytes field tail e after =
    let rest : tail ≡ drop size (drop offset bytes) = after ∙ sym (drop-drop size offset bytes) in
    rw e (rw rest (grind (arith, common_steps)))

left_after : (size offset : ℕ) (bytes : List ℕ) → offset + size ≤ length bytes → size ≤ length (drop offset bytes)
left_after size offset bytes h = grind (arith, common_steps)

pub u32_then : (bytes : List ℕ) (offset : ℕ) (tail : List ℕ) → AreBytes bytes → offset + 4 ≤ length bytes → tail ≡ drop (offset + 4) bytes → u32_bytes (u32_at bytes offset) ++ tail ≡ drop offset bytes
unfolding u32_at
u32_then bytes offset tail h fits after = joined 4 offset bytes _ tail (u32_back (drop offset bytes) (bytes_after offset bytes h) (left_after 4 offset bytes fits)) after

pub u64_then : (bytes : List ℕ) (offset : ℕ) (tail : List ℕ) → AreBytes bytes → offset + 8 ≤ length bytes → tail ≡ drop (offset + 8) bytes → u64_bytes (u64_at bytes offset) ++ tail ≡ drop offset bytes
unfolding u64_at
u64_then bytes offset tail h fits after = joined 8 offset bytes _ tail (u64_back (drop offset bytes) (bytes_after offset bytes h) (left_after 8 offset bytes fits)) after

pub i32_then : (bytes : List ℕ) (offset : ℕ) (tail : List ℕ) → AreBytes bytes → offset + 4 ≤ length bytes → tail ≡ drop (offset + 4) bytes → i32_bytes (i32_at bytes offset) ++ tail ≡ drop offset bytes
unfolding u32_at
i32_then bytes offset tail h fits after =
    let same : cast_unsigned w32 (i32_at bytes offset) ≡ u32_at bytes offset = of_z-to_z w32 _ (u32_fits (drop offset bytes) (bytes_after offset bytes h)) in
    ap (λ n. u32_bytes n ++ tail) same ∙ u32_then bytes offset tail h fits after

pub i64_then : (bytes : List ℕ) (offset : ℕ) (tail : List ℕ) → AreBytes bytes → offset + 8 ≤ length bytes → tail ≡ drop (offset + 8) bytes → i64_bytes (i64_at bytes offset) ++ tail ≡ drop offset bytes
unfolding u64_at
i64_then bytes offset tail h fits after =
    let same : cast_unsigned w64 (i64_at bytes offset) ≡ u64_at bytes offset = of_z-to_z w64 _ (u64_fits (drop offset bytes) (bytes_after offset bytes h)) in
    ap (λ n. u64_bytes n ++ tail) same ∙ u64_then bytes offset tail h fits after

pub nothing_after : (bytes : List ℕ) (n : ℕ) → length bytes ≡ n → [] ≡ drop n bytes
nothing_after bytes n h = grind (arith, common_steps)

pub last_part : (offset size : ℕ) (bytes : List ℕ) → length bytes ≡ offset + size → take size (drop offset bytes) ≡ drop offset bytes
last_part offset size bytes h = grind (arith, common_steps)

-- what a caller of `put_words` knows, at the number of words that the structure has
pub words_written : (bytes xs : List ℕ) (count : ℕ) → bytes ≡ flat_map u64_bytes xs → u64s_at bytes 0 (length xs) ≡ xs → length xs ≡ count → u64s_at (flat_map u64_bytes xs) 0 count ≡ xs
words_written bytes xs count written read len =
    let same : u64s_at (flat_map u64_bytes xs) 0 (length xs) ≡ xs = subst (λ b. u64s_at b 0 (length xs) ≡ xs) written read in
    subst (λ n. u64s_at (flat_map u64_bytes xs) 0 n ≡ xs) len same

pub three_items : (xs : List ℕ) → length xs ≡ 3 → xs ≡ get_or xs 0 0 ∷ get_or xs 1 0 ∷ get_or xs 2 0 ∷ []
three_items xs len =
    drop_more xs 0 0 (omega (arith, len)) ∙ ap (λ r. get_or xs 0 0 ∷ r) (
    drop_more xs 1 0 (omega (arith, len)) ∙ ap (λ r. get_or xs 1 0 ∷ r) (
    drop_more xs 2 0 (omega (arith, len)) ∙ ap (λ r. get_or xs 2 0 ∷ r) (
    sym (nothing_after xs 3 len))))
