-- The names that file systems and programs have in a policy, and in reports as they stand.
use Rattle.std.specs.Prelude.{ℕ, Bool, true, false, ◌&&◌, ◌||◌, nat_le, nat_eq, List, [], ◌∷◌, length, codes}
use Rattle.std.specs.List.{list_any, list_all}
use Rattle.hist_model.specs.Words.{is_digit}

-- the list has an item
abbrev pub is_filled : {A : Type 0} → List A → Bool
is_filled [] = false
is_filled (x ∷ xs) = true

-- the byte is one of these
abbrev pub is_one_of : List ℕ → ℕ → Bool
is_one_of marks b = list_any (λ m. nat_eq m b) marks

abbrev pub is_lower_or_digit : ℕ → Bool
is_lower_or_digit b = (nat_le 97 b && nat_le b 122) || is_digit b

abbrev pub is_short_name_byte : ℕ → Bool
is_short_name_byte b = is_lower_or_digit b || is_one_of (codes "._-") b

-- the names that file systems and programs may have: 1 to 32 bytes
abbrev pub is_short_name : List ℕ → Bool
is_short_name name = is_filled name && (nat_le (length name) 32 && list_all is_short_name_byte name)
