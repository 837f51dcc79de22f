-- Rows and their keys.
use Rattle.std.specs.Prelude.{ℕ, Bool, ◌&&◌, if◌then◌else◌, List, [], ◌∷◌, length, Option, Some, None, is_none, bytes_eq}
use Rattle.hist_model.specs.Look.{is_place}
use Rattle.hist_model.specs.declared.tree.NodeRow.{NodeRow}
use Rattle.hist_model.specs.declared.tree.AttrRow.{AttrRow}
use Rattle.hist_model.specs.declared.tree.Mounted.{Mounted}
use Rattle.mount_tree.specs.declared.rows.Alike.{Alike}
use Rattle.mount_tree.specs.declared.rows.Covered.{Covered}

-- what a row is found by: its owner, if it has one, and a name
pub record Key : Type 0 where
  pub owner : Option ℕ
  pub name : List ℕ

-- the key of an owner's row of a name
abbrev pub key_of : Option ℕ → List ℕ → Key
key_of owner name = record { owner = owner; name = name }

abbrev pub is_owner : Option ℕ → Option ℕ → Bool
is_owner o (Some n) = is_place o n
is_owner o None = is_none o

-- two keys are one
abbrev pub is_key : Key → Key → Bool
is_key a b = is_owner a.owner b.owner && bytes_eq a.name b.name

abbrev pub node_key : NodeRow → Key
node_key r = key_of r.parent r.name

abbrev pub attr_key : AttrRow → Key
attr_key r = key_of (Some r.on) r.name

-- a mount is found by the directory that it covers, and that directory by the mount's root
abbrev pub mount_key : Mounted → Key
mount_key m = key_of (Some m.target) []

abbrev pub covered_key : Covered → Key
covered_key c = key_of (Some c.root) []

abbrev pub alike_key : Alike → Key
alike_key a = key_of (Some a.node) []

abbrev pub covered_by : Mounted → Covered
covered_by m = record { root = m.root; target = m.target }

-- the newest row with a key, as its ordinal
unfoldable pub newest : {T : Type 0} → (T → Key) → List T → Key → Option ℕ
newest key [] k = None
newest key (r ∷ rs) k = if is_key (key r) k then Some (length rs) else newest key rs k

-- the newest row with a key
unfoldable pub newest_row : {T : Type 0} → (T → Key) → List T → Key → Option T
newest_row key [] k = None
newest_row key (r ∷ rs) k = if is_key (key r) k then Some r else newest_row key rs k

-- rows, the newest first, and whether there is room for one more
pub record Kept (T : Type 0) : Type 0 where
  pub rows : List T
  pub roomy : Bool
