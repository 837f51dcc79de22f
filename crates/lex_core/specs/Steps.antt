-- How the steps of the lexer go on.
use Rattle.std.specs.Prelude.{◌≡◌, ℕ, ◌++◌, Bool, ◌&&◌, not, nat_le, ◌==◌, List, [], ◌∷◌, Option, Some, None, Result, Ok, Err}
use Rattle.std.specs.Prelude.{true, false, if◌then◌else◌, ⊤}
use Rattle.std.specs.Borrow.{Bor}
use Rattle.lex_core.specs.declared.line.Token.{Token}
use Rattle.lex_core.specs.declared.reason.Reason.{Reason}
use Rattle.lex_core.specs.Lexical.{Within, with_byte, ended, is_blank, quoted, after}
use Rattle.sys_abi.specs.declared.memory.OrNoMemory.{OrNoMemory}
use Rattle.sys_abi.specs.declared.memory.OrNoMemory.TheVariants.{Refused, NoMemory}

-- a line from its first byte on that isn't blank
unfoldable pub past_blanks : List ℕ → List ℕ
past_blanks [] = []
past_blanks (b ∷ bs) = if is_blank b then past_blanks bs else b ∷ bs

-- some bytes of the token in hand come before what is left of it
abbrev pub with_bytes : List ℕ → Within → Within
with_bytes bytes (Ok left) = Ok (bytes ++ left.0, left.1)
with_bytes bytes (Err reason) = Err reason

-- some tokens come before those that are left
abbrev pub with_tokens : List Token → Result (List Token) Reason → Result (List Token) Reason
with_tokens front (Ok more) = Ok (front ++ more)
with_tokens front (Err reason) = Err reason

-- a byte within quotes that stands for itself
abbrev pub is_plain : ℕ → Bool
is_plain b = nat_le 32 b && not (b == 34) && not (b == 92)

-- a quoted token goes on with a byte, or ends
abbrev pub after_byte : Option ℕ → List ℕ → Within
after_byte (Some b) rest = with_byte b (quoted rest)
after_byte None rest = ended (after rest)

-- what a step within a quoted token found
abbrev pub after_piece : Result (Option ℕ × Bor (List ℕ)) Reason → Within
after_piece (Ok piece) = after_byte piece.0 piece.1.now
after_piece (Err reason) = Err reason

abbrev pub after_escape : Result (ℕ × Bor (List ℕ)) Reason → Within
after_escape (Ok piece) = with_byte piece.0 (quoted piece.1.now)
after_escape (Err reason) = Err reason

-- a refusal is what reading comes to; nothing is said of want of memory
abbrev pub Refuses : {A : Type 0} → OrNoMemory Reason → Result A Reason → Type 0
Refuses (Refused reason) reading = reading ≡ Err reason
Refuses NoMemory reading = ⊤

-- a text that begins with no blank and isn't empty
abbrev pub IsPastBlanks : List ℕ → Type 0
IsPastBlanks [] = ⊥
IsPastBlanks (b ∷ bs) = is_blank b ≡ false

-- nothing follows a token, or a blank
abbrev pub EndsToken : List ℕ → Type 0
EndsToken [] = ⊤
EndsToken (b ∷ bs) = is_blank b ≡ true

-- the byte that stands where a token has to end
abbrev pub touching : List ℕ → Option ℕ
touching [] = None
touching (b ∷ bs) = if is_blank b then None else Some b
