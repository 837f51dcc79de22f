-- The lines of a text, and what it means that two texts have the same first lines.
use Rattle.std.specs.Prelude.{◌≡◌, ℕ, ◌<◌, ◌≤◌, Bool, true, false, if◌then◌else◌, ◌==◌, List, [], ◌∷◌, ◌++◌, length, take}
use Rattle.std.specs.List.{flat_map, list_all}

-- one more byte before these lines: the byte 10 ends a line
abbrev pub before_lines : ℕ → List (List ℕ) → List (List ℕ)
before_lines b [] = (b ∷ []) ∷ []
before_lines b (line ∷ more) = if b == 10 then (b ∷ []) ∷ line ∷ more else (b ∷ line) ∷ more

-- the lines of a text, each with the byte 10 that ends it; a last piece without that byte is a line too
unfoldable pub lines : List ℕ → List (List ℕ)
lines [] = []
lines (b ∷ text) = before_lines b (lines text)

-- the texts have the same first n lines, or the same lines where both have fewer
abbrev pub AgreeOn : ℕ → List ℕ → List ℕ → Type 0
AgreeOn n text other = take n (lines text) ≡ take n (lines other)

-- ---- What it means to agree

-- the first n lines of a text, in a row
abbrev pub first_lines : ℕ → List ℕ → List ℕ
first_lines n text = flat_map (λ line. line) (take n (lines text))

-- the line has the byte 10 at its end
abbrev pub is_ended : List ℕ → Bool
is_ended [] = false
is_ended (b ∷ []) = b == 10
is_ended (b ∷ c ∷ line) = is_ended (c ∷ line)

-- a text that agrees on the first lines begins with them
abbrev pub AgreeingBegins : Type 0
AgreeingBegins = (n : ℕ) (text other : List ℕ) → AgreeOn n text other → (rest : List ℕ) × (other ≡ first_lines n text ++ rest)

-- a text that begins with them, where each is ended, agrees on them
abbrev pub BeginningAgrees : Type 0
BeginningAgrees = (n : ℕ) (text rest : List ℕ) → n ≤ length (lines text)
    → list_all is_ended (take n (lines text)) ≡ true → AgreeOn n text (first_lines n text ++ rest)

-- and one that agrees on more lines than there are is the same text
abbrev pub AgreeingPastIsSame : Type 0
AgreeingPastIsSame = (n : ℕ) (text other : List ℕ) → length (lines text) < n → AgreeOn n text other → text ≡ other
