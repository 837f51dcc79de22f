-- Words on lists.
use Rattle.std.specs.Prelude.{Bool, true, false, List, [], ◌∷◌}

abbrev pub has_items : {T : Type 0} → List T → Bool
has_items [] = false
has_items (x ∷ xs) = true
