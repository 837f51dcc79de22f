-- The grammar of a line.
use Rattle.std.specs.Prelude.{◌≡◌, ◌≢◌, ℕ, ◌<◌, ◌≤◌, true, false, List, [], ◌∷◌, ◌++◌, Some, None, Result, Ok, Err, ⊤, ◌⊎◌}
use Rattle.lex_core.specs.declared.line.Token.{Token}
use Rattle.lex_core.specs.declared.line.Token.TheVariants.{Bare, Quoted}
use Rattle.lex_core.specs.declared.reason.Reason.{Reason}
use Rattle.lex_core.specs.declared.reason.Reason.TheVariants.{BadByte, BadQuote}
use Rattle.lex_core.specs.Lexical.{is_blank, is_bare, begins_token, escaped, hex_digit, hex_byte}
use Rattle.lex_core.specs.Steps.{with_tokens, EndsToken}

-- the bytes of a bare token, or a part of one
abbrev pub AreBare : List ℕ → Type 0
AreBare [] = ⊤
AreBare (b ∷ bs) = (is_bare b ≡ true) × AreBare bs

-- how a text is written between quotes, and its bytes
pub data Written : List ℕ → List ℕ → Type 0 where
  nothing : Written [] []
  itself : (b : ℕ) (front bytes : List ℕ) → 32 ≤ b → b ≢ 34 → b ≢ 92 → Written front bytes → Written (b ∷ front) (b ∷ bytes)
  letter : (c b : ℕ) (front bytes : List ℕ) → c ≢ 120 → escaped c ≡ Some b → Written front bytes → Written (92 ∷ c ∷ front) (b ∷ bytes)
  digits : (high low b : ℕ) (front bytes : List ℕ) → hex_byte (hex_digit high) (hex_digit low) ≡ Some b
      → Written front bytes → Written (92 ∷ 120 ∷ high ∷ low ∷ front) (b ∷ bytes)

-- less than two digits follow a backslash and an x
abbrev pub LacksDigits : List ℕ → Type 0
LacksDigits [] = ⊤
LacksDigits (high ∷ []) = ⊤
LacksDigits (high ∷ low ∷ rest) = hex_byte (hex_digit high) (hex_digit low) ≡ None

-- no escape follows a backslash
abbrev pub LacksEscape : List ℕ → Type 0
LacksEscape [] = ⊤
LacksEscape (c ∷ rest) = ((c ≡ 120) × LacksDigits rest) ⊎ ((c ≢ 120) × (escaped c ≡ None))

-- what can't go on between quotes: nothing, a control byte, or a backslash without an escape
abbrev pub Breaks : List ℕ → Type 0
Breaks [] = ⊤
Breaks (b ∷ rest) = (b < 32) ⊎ ((b ≡ 92) × LacksEscape rest)

-- what is read of a line
pub data Reads : List ℕ → Result (List Token) Reason → Type 0 where
  at_end : Reads [] (Ok [])
  -- blanks are passed
  blank : (b : ℕ) (rest : List ℕ) (reading : Result (List Token) Reason) → is_blank b ≡ true → Reads rest reading → Reads (b ∷ rest) reading
  -- a bare token, before what is read of the rest
  word : (b : ℕ) (word rest : List ℕ) (reading : Result (List Token) Reason) → AreBare (b ∷ word) → EndsToken rest → Reads rest reading
      → Reads (b ∷ word ++ rest) (with_tokens (Bare (b ∷ word) ∷ []) reading)
  -- a quoted token, before what is read of the rest
  text : (front bytes rest : List ℕ) (reading : Result (List Token) Reason) → Written front bytes → EndsToken rest → Reads rest reading
      → Reads (34 ∷ front ++ 34 ∷ rest) (with_tokens (Quoted bytes ∷ []) reading)
  -- a byte that begins no token
  stray : (b : ℕ) (rest : List ℕ) → is_blank b ≡ false → begins_token b ≡ false → Reads (b ∷ rest) (Err BadByte)
  -- a bare token that a quote touches
  word_touched : (b : ℕ) (word rest : List ℕ) → AreBare (b ∷ word) → Reads (b ∷ word ++ 34 ∷ rest) (Err BadQuote)
  -- a bare token, and then a byte that begins none
  word_strays : (b c : ℕ) (word rest : List ℕ) → AreBare (b ∷ word) → is_blank c ≡ false
      → begins_token c ≡ false → Reads (b ∷ word ++ c ∷ rest) (Err BadByte)
  -- a quoted token that another token touches, bare or quoted
  text_touched : (c : ℕ) (front bytes rest : List ℕ) → Written front bytes → begins_token c ≡ true
      → Reads (34 ∷ front ++ 34 ∷ c ∷ rest) (Err BadQuote)
  -- a quoted token, and then a byte that begins none
  text_strays : (c : ℕ) (front bytes rest : List ℕ) → Written front bytes → is_blank c ≡ false
      → begins_token c ≡ false → Reads (34 ∷ front ++ 34 ∷ c ∷ rest) (Err BadByte)
  -- a quoted token that isn't closed, or has what can't stand in it
  text_broken : (front bytes rest : List ℕ) → Written front bytes → Breaks rest → Reads (34 ∷ front ++ rest) (Err BadQuote)
