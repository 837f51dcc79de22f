-- Numbers.
use Rattle.std.specs.Prelude.{ℕ, ◌+◌, ◌*◌, ◌^◌, ◌&&◌, nat_lt, nat_le, ◌==◌, if◌then◌else◌, List, [], ◌∷◌, length, Option, Some}
use Rattle.std.specs.Prelude.{None, ℤ, pos, neg_ℤ}
use Rattle.std.specs.Option.{option_map}
use Rattle.lex_core.specs.Lexical.{hex_digit}

abbrev pub if_below : ℕ → Option ℕ → Option ℕ
if_below base (Some digit) = if nat_lt digit base then Some digit else None
if_below base None = None

-- the value of a digit of a base up to 16
abbrev pub digit_value : ℕ → ℕ → Option ℕ
digit_value base c = if_below base (hex_digit c)

-- a digit counts as often as its place says
abbrev pub at_place : ℕ → Option ℕ → Option ℕ → Option ℕ
at_place weight (Some digit) (Some rest) = Some (digit * weight + rest)
at_place _ _ _ = None

-- the value of digits: a place weighs the base to the number of digits after it
unfoldable pub digits_value : ℕ → List ℕ → Option ℕ
digits_value base [] = Some 0
digits_value base (c ∷ cs) = at_place (base ^ length cs) (digit_value base c) (digits_value base cs)

-- a base, the most digits that a number of it has, and the digits
pub record Form : Type 0 where
  pub base : ℕ
  pub most : ℕ
  pub digits : List ℕ

abbrev pub decimal : List ℕ → Form
decimal digits = record { base = 10; most = 20; digits = digits }

-- the letter after a 0 names another base
abbrev pub lettered : ℕ → List ℕ → Form → Form
lettered c digits plain =
    if c == 120 then record { base = 16; most = 16; digits = digits }
    else if c == 111 then record { base = 8; most = 22; digits = digits }
    else plain

abbrev pub form_of : List ℕ → Form
form_of [] = decimal []
form_of (b ∷ []) = decimal (b ∷ [])
form_of (b ∷ c ∷ digits) = if b == 48 then lettered c digits (decimal (b ∷ c ∷ digits)) else decimal (b ∷ c ∷ digits)

-- at least one digit, and no more than its base has
abbrev pub form_value : Form → Option ℕ
form_value f = if nat_le 1 (length f.digits) && nat_le (length f.digits) f.most then digits_value f.base f.digits else None

abbrev pub unsigned_value : List ℕ → Option ℕ
unsigned_value text = form_value (form_of text)

-- the value of a number without a sign, where it has at most fifteen digits
abbrev pub short_number : List ℕ → Option ℕ
short_number text = if nat_le (length (form_of text).digits) 15 then unsigned_value text else None

-- the number that a bare token stands for
abbrev pub number : List ℕ → Option ℤ
number [] = None
number (b ∷ bs) = if b == 45 then option_map (λ n. neg_ℤ (pos n)) (unsigned_value bs) else option_map pos (unsigned_value (b ∷ bs))
