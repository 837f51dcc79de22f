-- What is read of a line, byte by byte. What a byte does to what comes behind it is said by the place where it stands: between
-- tokens, within one, or behind one.
use Rattle.std.specs.Prelude.{ℕ, ◌+◌, ◌-◌, ◌*◌, Bool, ◌&&◌, ◌||◌, not, nat_lt, nat_le, ◌==◌, if◌then◌else◌, List, [], ◌∷◌, Option, Some}
use Rattle.std.specs.Prelude.{None, Result, Ok, Err}
use Rattle.lex_core.specs.declared.line.Token.{Token}
use Rattle.lex_core.specs.declared.line.Token.TheVariants.{Bare, Quoted}
use Rattle.lex_core.specs.declared.reason.Reason.{Reason}
use Rattle.lex_core.specs.declared.reason.Reason.TheVariants.{BadByte, BadQuote}

-- ---- bytes

-- space and tab
abbrev pub is_blank : ℕ → Bool
is_blank b = (b == 32) || (b == 9)

-- the visible ASCII bytes but the quote and the backslash
abbrev pub is_bare : ℕ → Bool
is_bare b = nat_lt 32 b && nat_lt b 127 && not (b == 34) && not (b == 92)

-- what a backslash and this letter stand for: 0, n, the backslash and the quote
abbrev pub escaped : ℕ → Option ℕ
escaped c = if c == 48 then Some 0 else if c == 110 then Some 10 else if c == 92 then Some 92 else if c == 34 then Some 34 else None

-- the value of a hexadecimal digit
abbrev pub hex_digit : ℕ → Option ℕ
hex_digit c =
    if nat_le 48 c && nat_le c 57 then Some (c - 48)
    else if nat_le 97 c && nat_le c 102 then Some (c - 97 + 10)
    else if nat_le 65 c && nat_le c 70 then Some (c - 65 + 10)
    else None

-- the byte of two hexadecimal digits
abbrev pub hex_byte : Option ℕ → Option ℕ → Option ℕ
hex_byte (Some high) (Some low) = Some (high * 16 + low)
hex_byte _ _ = None

-- a byte that begins a token: a bare one, or with a quote a quoted one
abbrev pub begins_token : ℕ → Bool
begins_token b = is_bare b || (b == 34)

-- what is wrong with a byte right behind a token, where that doesn't go on and no blank follows: it begins a token that touches it, or none
abbrev pub fault_behind : ℕ → Reason
fault_behind b = if begins_token b then BadQuote else BadByte

-- ---- lines

-- the bytes that are left of the token in hand, and the tokens after it
abbrev pub Within : Type 0
Within = Result (List ℕ × List Token) Reason

abbrev pub with_byte : ℕ → Within → Within
with_byte b (Ok left) = Ok (b ∷ left.0, left.1)
with_byte b (Err reason) = Err reason

-- an escape that stands for no byte is a fault
abbrev pub with_escape : Option ℕ → Within → Within
with_escape (Some b) within = with_byte b within
with_escape None within = Err BadQuote

-- the token in hand ends here
abbrev pub ended : Result (List Token) Reason → Within
ended (Ok tokens) = Ok ([], tokens)
ended (Err reason) = Err reason

-- the token in hand is of this kind
abbrev pub begun : (List ℕ → Token) → Within → Result (List Token) Reason
begun kind (Ok left) = Ok (kind left.0 ∷ left.1)
begun kind (Err reason) = Err reason

-- Each rule says what may come next, and what is made of it.
unfoldable mutual
  -- between tokens
  pub tokens : List ℕ → Result (List Token) Reason
  tokens [] = Ok []
  tokens (b ∷ bs) =
      if is_blank b then tokens bs
      else if is_bare b then begun Bare (with_byte b (bare bs))
      else if b == 34 then begun Quoted (quoted bs)
      else Err BadByte

  -- within a bare token
  pub bare : List ℕ → Within
  bare [] = Ok ([], [])
  bare (b ∷ bs) =
      if is_bare b then with_byte b (bare bs)
      else if is_blank b then ended (tokens bs)
      else Err (fault_behind b)

  -- within a quoted token
  pub quoted : List ℕ → Within
  quoted [] = Err BadQuote
  quoted (b ∷ bs) =
      if b == 34 then ended (after bs)
      else if b == 92 then escape bs
      else if nat_lt b 32 then Err BadQuote
      else with_byte b (quoted bs)

  -- behind a backslash
  pub escape : List ℕ → Within
  escape [] = Err BadQuote
  escape (c ∷ bs) = if c == 120 then hex bs else with_escape (escaped c) (quoted bs)

  -- behind a backslash and the letter x
  pub hex : List ℕ → Within
  hex [] = Err BadQuote
  hex (h ∷ []) = Err BadQuote
  hex (h ∷ l ∷ bs) = with_escape (hex_byte (hex_digit h) (hex_digit l)) (quoted bs)

  -- behind a quoted token
  pub after : List ℕ → Result (List Token) Reason
  after [] = Ok []
  after (b ∷ bs) = if is_blank b then tokens bs else Err (fault_behind b)
