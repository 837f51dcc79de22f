-- Which numbers from 1 on the library's calls take.
-- By what the two tests say.
use Rattle.std.proofs.Common.{◌≡◌, ℕ, ◌≤◌, true, false, ◌&&◌, arith}
use Rattle.std.specs.Prelude.{nat_le}
use Rattle.std.proofs.lemmas.Bool.{and_parts, leb-true}

-- a number is in range where its tests say so
pub in_range : (most n : ℕ) → (nat_le 1 n && nat_le n most) ≡ true → (1 ≤ n) × (n ≤ most)
in_range most n is = let both = and_parts (nat_le 1 n) (nat_le n most) is in (leb-true 1 n both.0, leb-true n most both.1)

-- and isn't where they don't
pub out_of_range : (most n : ℕ) → (nat_le 1 n && nat_le n most) ≡ false → ¬ ((1 ≤ n) × (n ≤ most))
out_of_range most n is = λ within. grind arith
