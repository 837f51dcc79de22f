-- Words that are decimal numbers, as scripts, policies and the program's own words have them.
use Rattle.std.specs.Prelude.{ℕ, ◌+◌, ◌-◌, ◌*◌, Bool, ◌&&◌, if◌then◌else◌, nat_le, List, [], ◌∷◌, length, Option, Some, None}
use Rattle.std.specs.List.{list_all}

abbrev pub is_digit : ℕ → Bool
is_digit b = nat_le 48 b && nat_le b 57

-- the number of decimal digits, after a number that stands before them
unfoldable pub number_after : ℕ → List ℕ → ℕ
number_after n [] = n
number_after n (b ∷ bs) = number_after (10 * n + (b - 48)) bs

-- 1 to 20 decimal digits
abbrev pub is_number : List ℕ → Bool
is_number word = nat_le 1 (length word) && (nat_le (length word) 20 && list_all is_digit word)

-- the number that a word is, where it is one from low to high
abbrev pub number_between : ℕ → ℕ → List ℕ → Option ℕ
number_between low high word =
    if is_number word && (nat_le low (number_after 0 word) && nat_le (number_after 0 word) high) then Some (number_after 0 word) else None
