-- Mounts that lie one on another: what is seen at two nodes of a stack is the same, and so is what lies under them.
use Rattle.std.specs.Prelude.{◌≡◌, ℕ, zero, suc, ◌<◌, true, false, if◌then◌else◌, ◌==◌, List, [], ◌∷◌, length, None}
use Rattle.hist_model.specs.Trees.{mount_on, target_of, top_through, uncovered, parent_of, row_in}
use Rattle.hist_model.specs.declared.tree.NodeRow.{NodeRow}
use Rattle.hist_model.specs.declared.tree.Mounted.{Mounted}
use Rattle.mount_tree.specs.declared.rows.Alike.{Alike}
use Rattle.mount_tree.specs.declared.stacks.Stacks.{Stacks}

-- what is seen at a node, with these mounts
abbrev pub seen : List Mounted → ℕ → ℕ
seen ms n = top_through (length ms) ms n

-- what lies under a node, out of at most so many mounts
unfoldable pub under_through : ℕ → List Mounted → ℕ → ℕ
under_through zero ms n = n
under_through (suc k) ms n = uncovered (under_through k ms) n (target_of ms n)

-- what lies under a node, with these mounts
abbrev pub under : List Mounted → ℕ → ℕ
under ms n = under_through (length ms) ms n

-- a node that lies under another one, and is no mount's root
abbrev pub IsBottom : List Mounted → ℕ → ℕ → Type 0
IsBottom ms n bottom = (bottom ≡ under ms n) × (target_of ms bottom ≡ None)

-- the root isn't above the bottom of a stack, among its mounts
abbrev pub IsApart : List Mounted → ℕ → ℕ → Type 0
IsApart ms root bottom = (k : ℕ) → under_through k ms root ≡ bottom → root ≡ bottom

-- the other node of the newest row of a node, or the node itself
unfoldable pub other_in : List Alike → ℕ → ℕ
other_in [] n = n
other_in (a ∷ rest) n = if a.node == n then a.other else other_in rest n

-- the same is seen at the two nodes of each row
abbrev pub AreAlike : List Mounted → List Alike → Type 0
AreAlike ms alike = (n : ℕ) → seen ms (other_in alike n) ≡ seen ms n

-- the other node of a node is what lies under it
abbrev pub AreUnder : List Mounted → List Alike → Type 0
AreUnder ms alike = (n : ℕ) → other_in alike n ≡ under ms n

-- nothing is mounted on the mount's root, another node
pub record IsFresh (ms : List Mounted) (target root : ℕ) : Type 0 where
  pub bare : mount_on ms root ≡ None
  pub apart : (target == root) ≡ false

-- the mount is on a node without one, and its root is fresh
pub record IsOnTop (ms : List Mounted) (target root : ℕ) : Type 0 where
  pub free : mount_on ms target ≡ None
  pub fresh : IsFresh ms target root

-- the root of each mount was fresh
unfoldable pub AreFresh : List Mounted → Type 0
AreFresh [] = Unit {0}
AreFresh (m ∷ ms) = IsFresh ms m.target m.root × AreFresh ms

-- each mount was put on top
unfoldable pub ArePiled : List Mounted → Type 0
ArePiled [] = Unit {0}
ArePiled (m ∷ ms) = IsOnTop ms m.target m.root × ArePiled ms

-- the rows are right for these mounts: downward as long as the roots were fresh, and upward as long as each mount was put on top
pub record Follow (ms : List Mounted) (s : Stacks) : Type 0 where
  pub fresh : s.fresh ≡ true → AreFresh ms
  pub under : s.fresh ≡ true → AreUnder ms s.bottoms.rows
  pub piled : s.piled ≡ true → ArePiled ms
  pub bottoms : s.piled ≡ true → AreAlike ms s.bottoms.rows
  pub tops : s.piled ≡ true → AreAlike ms s.tops.rows

-- there is room for the rows of one more mount, which are right with it
abbrev pub HasRoom : Stacks → Type 0
HasRoom s = (s.bottoms.roomy ≡ true) × (s.tops.roomy ≡ true)

-- the mount's root is a node without a parent
pub record IsRooted (nodes : List NodeRow) (m : Mounted) : Type 0 where
  pub made : m.root < length nodes
  pub parentless : parent_of (row_in nodes m.root) ≡ None

-- the root of each mount is a node without a parent
unfoldable pub AreRooted : List NodeRow → List Mounted → Type 0
AreRooted nodes [] = Unit {0}
AreRooted nodes (m ∷ ms) = IsRooted nodes m × AreRooted nodes ms
