-- The lines of a file.
use Rattle.std.specs.Prelude.{ℕ, ◌+◌, Bool, true, false, ◌==◌, if◌then◌else◌, List, [], ◌∷◌}
use Rattle.lex_core.specs.Lexical.{is_blank}

-- a line and its number
pub record Numbered : Type 0 where
  pub number : ℕ
  pub bytes : List ℕ

abbrev pub before_line : ℕ → List (List ℕ) → List (List ℕ)
before_line b [] = (b ∷ []) ∷ []
before_line b (line ∷ lines) = (b ∷ line) ∷ lines

-- a byte 10 ends a line, and every other byte belongs to the line that goes on behind it
abbrev pub with_front : ℕ → List (List ℕ) → List (List ℕ)
with_front b lines = if b == 10 then [] ∷ lines else before_line b lines

-- the bytes between the line ends
unfoldable pub split : List ℕ → List (List ℕ)
split [] = []
split (b ∷ bs) = with_front b (split bs)

-- a line without the byte 13 at its end
unfoldable pub without_return : List ℕ → List ℕ
without_return [] = []
without_return (b ∷ []) = if b == 13 then [] else b ∷ []
without_return (b ∷ c ∷ bs) = b ∷ without_return (c ∷ bs)

-- a line without tokens: blanks alone, or a comment after them
unfoldable pub is_skipped : List ℕ → Bool
is_skipped [] = true
is_skipped (b ∷ bs) = if is_blank b then is_skipped bs else b == 35

abbrev pub unless_skipped : Bool → Numbered → List Numbered → List Numbered
unless_skipped true line lines = lines
unless_skipped false line lines = line ∷ lines

-- a line with a number, before the lines that follow
abbrev pub before_lines : ℕ → List ℕ → List Numbered → List Numbered
before_lines n line lines = unless_skipped (is_skipped line) (record { number = n; bytes = line }) lines

unfoldable pub numbered : ℕ → List (List ℕ) → List Numbered
numbered n [] = []
numbered n (line ∷ lines) = before_lines (n + 1) (without_return line) (numbered (n + 1) lines)

-- the lines that aren't skipped, where n lines stand before these bytes
abbrev pub lines_after : ℕ → List ℕ → List Numbered
lines_after n bytes = numbered n (split bytes)
