-- What the texts in a policy stand for: numbers, devices, names, and items between commas.
use Rattle.std.specs.Prelude.{ℕ, Bool, ◌&&◌, if◌then◌else◌, ◌==◌, nat_le, nat_eq, List, [], ◌∷◌, length, reverse, map, filter, Option, Some}
use Rattle.std.specs.Prelude.{None, option_and_then, bytes_eq, drop, codes}
use Rattle.std.specs.List.{list_any, slice_split, starts_with}
use Rattle.hist_model.specs.RuleParts.{is_filled, is_from, is_rule_name}
use Rattle.hist_model.specs.Words.{number_between}
use Rattle.serde_json.specs.Data.{Data}
use Rattle.serde_json.specs.Find.{as_number, as_u64}

-- ---- Numbers

-- a text of two bytes or more that begins with the digit 0
abbrev pub leads_with_zero : List ℕ → Bool
leads_with_zero text = nat_le 2 (length text) && starts_with nat_eq text (codes "0")

-- the number that a decimal text without leading zeros is, where it is at most this
abbrev pub decimal_up_to : ℕ → List ℕ → Option ℕ
decimal_up_to high text = if leads_with_zero text then None else number_between 0 high text

-- the number, where it is from low to 2^32 - 1
abbrev pub in_range : ℕ → ℕ → Option ℕ
in_range low n = if is_from low n then Some n else None

-- the whole number from low to 2^32 - 1 that a value is
abbrev pub whole_from : ℕ → Data → Option ℕ
whole_from low d = option_and_then (in_range low) (option_and_then as_u64 (as_number d))

-- ---- Parts of a text

-- what stands before the first byte of this kind, and what stands behind it, where there is one
abbrev pub cut_at : ℕ → List ℕ → List ℕ × Option (List ℕ)
cut_at mark [] = ([], None)
cut_at mark (b ∷ bs) = if b == mark then ([], Some bs) else (b ∷ (cut_at mark bs).0, (cut_at mark bs).1)

-- what stands behind the bytes with which a text begins
abbrev pub behind : List ℕ → List ℕ → Option (List ℕ)
behind front text = if starts_with nat_eq text front then Some (drop (length front) text) else None

-- a text from its first byte on that is no space
abbrev pub past_spaces : List ℕ → List ℕ
past_spaces [] = []
past_spaces (b ∷ bs) = if b == 32 then past_spaces bs else b ∷ bs

-- a text without the spaces at its ends
abbrev pub trimmed : List ℕ → List ℕ
trimmed text = reverse (past_spaces (reverse (past_spaces text)))

-- the items between commas, without the spaces around them; what is empty is no item
abbrev pub items_of : List ℕ → List (List ℕ)
items_of text = filter is_filled (map trimmed (slice_split (λ b. b == 44) text))

-- ---- Names

-- the name is one of these texts
abbrev pub is_text_of : List (List ℕ) → List ℕ → Bool
is_text_of texts name = list_any (λ text. bytes_eq text name) texts

-- the text, where a rule of a policy may have it as its name
abbrev pub rule_name : List ℕ → Option (List ℕ)
rule_name text = if is_rule_name text then Some text else None
