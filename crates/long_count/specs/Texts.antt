-- The text of a number of any length. What std calls `decimal` has 64 digits at most.
use Rattle.std.specs.Prelude.{◌≡◌, ℕ, ◌+◌, ◌<◌, ◌^◌, List, [], decimal, false}
use Rattle.std.specs.Fmt.{digits_onto}

-- the decimal digits of a number, which has no more of them than its value and one
unfoldable pub decimal_of : ℕ → List ℕ
decimal_of n = digits_onto (n + 1) 10 false n []

-- up to 64 digits it is what `{}` writes
abbrev pub IsAsWritten : Type 0
IsAsWritten = (n : ℕ) → n < 10 ^ 64 → decimal_of n ≡ decimal n
