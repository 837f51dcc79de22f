-- Maps from bytes, read as functions.
use Rattle.std.specs.Prelude.{ℕ, List, Option, Vec}
use Rattle.std.specs.BTreeMap.{BTreeMap, get_by}
use Rattle.std.specs.Cmp.Lexicographic.{slice_cmp}
use Rattle.std.specs.Ordering.{nat_cmp}

-- what the map has for some bytes
abbrev pub value_in : {X Y : Type 0} → BTreeMap (Vec ℕ Y) X → List ℕ → Option X
value_in m bytes = get_by (λ key. slice_cmp nat_cmp bytes key.items) m
