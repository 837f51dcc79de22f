-- What a look at a tree tells: the root of the newest mount, and whether an attribute has a value.
use Rattle.std.specs.Prelude.{ℕ, Bool, false, List, [], ◌∷◌, Option, Some, None, bytes_eq}
use Rattle.hist_model.specs.declared.tree.Mounted.{Mounted}

-- the root of the newest mount
abbrev pub newest_root : List Mounted → Option ℕ
newest_root [] = None
newest_root (m ∷ ms) = Some m.root

-- the attribute is there, with this value
abbrev pub has_value : Option (List ℕ) → List ℕ → Bool
has_value (Some old) value = bytes_eq old value
has_value None value = false
