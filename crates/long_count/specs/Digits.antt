-- Numbers by their decimal digits, the lowest first.
use Rattle.std.specs.Prelude.{ℕ, ◌+◌, ◌*◌, ◌<◌, List, [], ◌∷◌}

-- the number that has these digits
abbrev pub value : List ℕ → ℕ
value [] = 0
value (d ∷ more) = d + 10 * value more

-- each of them is a digit
abbrev pub AreDigits : List ℕ → Type 0
AreDigits [] = Unit {0}
AreDigits (d ∷ more) = (d < 10) × AreDigits more

-- the highest of them isn't 0, or there is none
abbrev pub IsTrimmed : List ℕ → Type 0
IsTrimmed [] = Unit {0}
IsTrimmed (d ∷ []) = 0 < d
IsTrimmed (d ∷ e ∷ more) = IsTrimmed (e ∷ more)
