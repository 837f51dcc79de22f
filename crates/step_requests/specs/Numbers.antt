-- The ranges of numbers.
use Rattle.std.specs.Prelude.{ℕ, ℤ, pos, negsuc, nat_lt, int_le, ◌&&◌, if◌then◌else◌, Option, Some, None}

-- a number from 0 to below a limit
abbrev pub below : ℕ → ℤ → Option ℕ
below limit (pos n) = if nat_lt n limit then Some n else None
below limit (negsuc n) = None

-- a number between two others, these among them
abbrev pub between : ℤ → ℤ → ℤ → Option ℤ
between least most n = if int_le least n && int_le n most then Some n else None
