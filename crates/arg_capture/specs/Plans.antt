-- Parts of a plan that are left.
use Rattle.std.specs.Prelude.{ℕ, ◌+◌, ◌<◌, ◌≤◌, List, [], ◌∷◌, Option, Some, None, ⊤}
use Rattle.hist_model.specs.declared.copy.Part.{Part}
use Rattle.hist_model.specs.declared.copy.Part.TheVariants.{Text, Value}

-- a text has room for its zero, and at most 4096 bytes
abbrev pub IsSound : Part → Type 0
IsSound (Text address limit fault) = (0 < limit) × (limit ≤ 4096)
IsSound (Value address size) = ⊤

abbrev pub first_part : List Part → Option Part
first_part [] = None
first_part (part ∷ parts) = Some part

abbrev pub rest_parts : List Part → List Part
rest_parts [] = []
rest_parts (part ∷ parts) = parts

-- a part that a piece is read for, with at most so many bytes left
abbrev pub IsReadable : ℕ → Part → Type 0
IsReadable taken (Text address limit fault) = taken + limit ≤ 4096
IsReadable taken (Value address size) = (0 < size) × (taken + size ≤ 4096)

-- the part in hand, if there is one, is read
abbrev pub IsSettled : ℕ → List Part → Type 0
IsSettled taken [] = ⊤
IsSettled taken (part ∷ parts) = IsReadable taken part
