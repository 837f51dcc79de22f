-- Flags that are set and unset bit by bit.
-- By the laws of bits of numbers.
use Rattle.std.proofs.Common.{◌≡◌, ◌≢◌, ℕ, ◌*◌, ◌^◌, ◌<◌, min, true, false, not, refl, ap, ◌∙◌, arith}
use Rattle.std.specs.Prelude.{◌==◌, bit_and, bit_or}
use mir.Val.{bits}
use Rattle.std.specs.Int.{Width, w64, bit_at, bit_not}
use Rattle.std.proofs.lemmas.Bool.{eq-eqb, ne_eqb}
use Rattle.std.proofs.lemmas.Nat.Bits.{and_pow, bit_at_and, bit_at_or, bit_at_not, bit_at-lt, bit_at-pow_same, bit_at-pow_other}
use Rattle.std.proofs.Math.Pow.{pow-lt, pow_pos}
use Rattle.hist_model.specs.Decisions.{mount_flags}

-- without bit 31 there is no magic number
no_magic : (n : ℕ) → bit_at n 31 ≡ 0 → (bit_and n 4294901760 == 3236757504) ≡ false
no_magic n h = ne_eqb (bit_and n 4294901760) 3236757504 (λ e. absurd (by e))
  where
    by : bit_and n 4294901760 ≡ 3236757504 → ⊥
    by e =
        let one : bit_at (bit_and n 4294901760) 31 ≡ 1 = ap (λ m. bit_at m 31) e in
        let least : bit_at (bit_and n 4294901760) 31 ≡ min (bit_at n 31) (bit_at 4294901760 31) = bit_at_and n 4294901760 31 in
        omega arith

pub flags_without_magic : (n : ℕ) → bit_at n 31 ≡ 0 → mount_flags n ≡ n
flags_without_magic n h = rw (no_magic n h) refl

-- a bit that is set leaves the others
pub or_other : (n j k : ℕ) → k ≢ j → bit_at (bit_or n (2 ^ j)) k ≡ bit_at n k
or_other n j k h = rw (bit_at_or n (2 ^ j) k, bit_at-pow_other j k h) (omega arith)

or_same : (n j : ℕ) → bit_at (bit_or n (2 ^ j)) j ≡ 1
or_same n j = rw (bit_at_or n (2 ^ j) j, bit_at-pow_same j) (let l = bit_at-lt n j in omega arith)

-- so does one that is unset
clear_other : (w : Width) (n j k : ℕ) → j < bits w → k < bits w → k ≢ j → bit_at (bit_and n (bit_not w (2 ^ j))) k ≡ bit_at n k
clear_other w n j k lj lk h =
    rw (bit_at_and n (bit_not w (2 ^ j)) k, bit_at_not w (2 ^ j) k (pow-lt lj) lk, bit_at-pow_other j k h) (let l = bit_at-lt n k in omega arith)

clear_same : (w : Width) (n j : ℕ) → j < bits w → bit_at (bit_and n (bit_not w (2 ^ j))) j ≡ 0
clear_same w n j l = rw (bit_at_and n (bit_not w (2 ^ j)) j, bit_at_not w (2 ^ j) j (pow-lt l) l, bit_at-pow_same j) (omega arith)

-- the bit is seen
pub set_seen : (n j : ℕ) → not (bit_and (bit_or n (2 ^ j)) (2 ^ j) == 0) ≡ true
set_seen n j = rw (and_pow (bit_or n (2 ^ j)) j, or_same n j) (ap not (ne_eqb (1 * 2 ^ j) 0 (λ e. let p = pow_pos j in omega arith)))

pub clear_seen : (w : Width) (n j : ℕ) → j < bits w → not (bit_and (bit_and n (bit_not w (2 ^ j))) (2 ^ j) == 0) ≡ false
clear_seen w n j l = rw (and_pow (bit_and n (bit_not w (2 ^ j))) j, clear_same w n j l) (ap not (eq-eqb (0 * 2 ^ j) 0 (omega arith)))

-- the others are seen as before
pub set_unseen : (n j k : ℕ) → k ≢ j → bit_and (bit_or n (2 ^ j)) (2 ^ k) ≡ bit_and n (2 ^ k)
set_unseen n j k h = rw (and_pow (bit_or n (2 ^ j)) k, and_pow n k, or_other n j k h) refl

pub clear_unseen : (w : Width) (n j k : ℕ) → j < bits w → k < bits w → k ≢ j → bit_and (bit_and n (bit_not w (2 ^ j))) (2 ^ k) ≡ bit_and n (2 ^ k)
clear_unseen w n j k lj lk h = rw (and_pow (bit_and n (bit_not w (2 ^ j))) k, and_pow n k, clear_other w n j k lj lk h) refl

pub set_no_magic : (n j : ℕ) → j < 31 → bit_at n 31 ≡ 0 → bit_at (bit_or n (2 ^ j)) 31 ≡ 0
set_no_magic n j l h = or_other n j 31 (omega arith) ∙ h

pub clear_no_magic : (n j : ℕ) → j < 31 → bit_at n 31 ≡ 0 → bit_at (bit_and n (bit_not w64 (2 ^ j))) 31 ≡ 0
clear_no_magic n j l h = clear_other w64 n j 31 (omega arith) (omega arith) (omega arith) ∙ h
