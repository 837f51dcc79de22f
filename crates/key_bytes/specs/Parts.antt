-- The parts of a key.
use Rattle.std.specs.Prelude.{◌≡◌, ℕ, ◌^◌, Bool, true, false, if◌then◌else◌, nat_lt, List, [], ◌∷◌, ◌++◌, length, Option, Some, None}
use Rattle.std.specs.Prelude.{ℤ, pos, negsuc, Result, Ok, Err}
use Rattle.std.specs.Int.{to_le_bytes, w64}
use Rattle.std.specs.List.{flat_map}

-- a number of 64 bits is its eight bytes, the lowest first; any other one stands for itself, behind what is no byte
unfoldable pub number_part : ℕ → List ℕ
number_part n = if nat_lt n (2 ^ 64) then to_le_bytes w64 n else 256 ∷ n ∷ []

abbrev pub flag_part : Bool → List ℕ
flag_part false = 0 ∷ []
flag_part true = 1 ∷ []

-- a number that may be below 0, with its sign before it
abbrev pub signed_part : ℤ → List ℕ
signed_part (pos n) = 0 ∷ number_part n
signed_part (negsuc n) = 1 ∷ number_part n

-- a text, with its length before it
abbrev pub text_part : List ℕ → List ℕ
text_part text = number_part (length text) ++ text

-- values, with how many there are before them
abbrev pub list_part : {A : Type 0} → (A → List ℕ) → List A → List ℕ
list_part part xs = number_part (length xs) ++ flat_map part xs

-- a value that there may be
abbrev pub option_part : {A : Type 0} → (A → List ℕ) → Option A → List ℕ
option_part part None = 0 ∷ []
option_part part (Some x) = 1 ∷ part x

-- two values, one after another
abbrev pub pair_part : {A B : Type 0} → (A → List ℕ) → (B → List ℕ) → A × B → List ℕ
pair_part first second p = first p.0 ++ second p.1

-- an answer without a value, or the number of an error
abbrev pub answer_part : Result (Unit {0}) ℕ → List ℕ
answer_part (Ok u) = 0 ∷ []
answer_part (Err e) = 1 ∷ number_part e

-- where equal bytes begin with the parts of two values, these are equal, and so is what comes after them
abbrev pub Ends : {A : Type 0} → (A → List ℕ) → Type 0
Ends {A} part = (a b : A) (r s : List ℕ) → part a ++ r ≡ part b ++ s → (a ≡ b) × (r ≡ s)
