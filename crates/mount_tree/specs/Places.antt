-- Where an attribute's row stands.
use Rattle.std.specs.Prelude.{ℕ, if◌then◌else◌, List, [], ◌∷◌, length, Option, Some, None}
use Rattle.hist_model.specs.Trees.{is_attr}
use Rattle.hist_model.specs.declared.tree.AttrRow.{AttrRow}

-- the place of an attribute's newest row: the length of the list below it
unfoldable pub attr_place : List AttrRow → ℕ → List ℕ → Option ℕ
attr_place [] on name = None
attr_place (r ∷ rs) on name = if is_attr r on name then Some (length rs) else attr_place rs on name
