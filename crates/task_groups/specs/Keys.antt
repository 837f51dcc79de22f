-- The key of a table of groups: of each group the pages that were written, each with its number and its bytes, and its descriptors. How
-- many tasks and handles hold a group isn't in it: the tasks and the workers tell that.
use Rattle.std.specs.Prelude.{◌≡◌, ℕ, ◌+◌, ◌<◌, true, List, ◌++◌, length, Some}
use Rattle.hist_model.specs.Memory.{is_mapped}
use Rattle.hist_model.specs.declared.request.Obj.{Obj}
use Rattle.hist_model.specs.declared.request.Obj.TheVariants.{Broker, Console, Node}
use Rattle.key_bytes.specs.Parts.{flag_part, list_part, number_part, text_part}
use Rattle.task_groups.specs.Groups.{Holds}
use Rattle.task_groups.specs.Pages.{byte_in, bytes_at}
use Rattle.task_groups.specs.Rows.{Row, row_at, rows_of}
use Rattle.task_groups.specs.State.{State}
use Rattle.task_groups.specs.declared.descriptors.Descriptor.{Descriptor}
use Rattle.task_groups.specs.declared.groups.Group.{Group}
use Rattle.task_groups.specs.declared.groups.Groups.{Groups}
use Rattle.task_groups.specs.declared.list.PageEntry.{PageEntry}
use Rattle.task_groups.specs.declared.pages.Pages.{Pages}

-- a page, with its bytes up to the last that was written
abbrev pub page_part : Pages → PageEntry → List ℕ
page_part P e = number_part e.number ++ text_part (bytes_at P e.slot)

-- what a number leads to: a number for each kind, and the ordinal or the file's number
abbrev pub object_code : Obj → ℕ
object_code Console = 0
object_code (Node node) = 1
object_code (Broker file) = 2

abbrev pub object_number : Obj → ℕ
object_number Console = 0
object_number (Node node) = node.ordinal
object_number (Broker file) = file

abbrev pub descriptor_part : Descriptor → List ℕ
descriptor_part d = number_part d.number ++ number_part (object_code d.obj) ++ number_part (object_number d.obj) ++ flag_part d.cloexec

abbrev pub group_part : Pages → Group → List ℕ
group_part P g = list_part (page_part P) g.pages.items ++ list_part descriptor_part g.descriptors.items

-- a whole table
abbrev pub groups_part : Groups → List ℕ
groups_part G = list_part (group_part G.pages) G.rows.items

-- ---- what it tells

-- as many groups were made, and the groups of each ordinal have the same byte at each address and the same descriptors
pub record HaveSame (a b : Groups) : Type 0 where
  pub made : length (rows_of a) ≡ length (rows_of b)
  pub bytes : (o : ℕ) (p q : Row) → row_at a o ≡ Some p → row_at b o ≡ Some q → (x : ℕ)
      → byte_in a.pages p.pages x ≡ byte_in b.pages q.pages x
  pub descriptors : (o : ℕ) (p q : Row) → row_at a o ≡ Some p → row_at b o ≡ Some q → p.descriptors ≡ q.descriptors

-- where equal bytes begin with the keys of two tables, their groups have the same, and what comes after them is equal
abbrev pub TellGroups : Type 0
TellGroups = (a b : Groups) (r s : List ℕ) → groups_part a ++ r ≡ groups_part b ++ s → HaveSame a b × (r ≡ s)

-- as many groups were made; a group that somebody holds in both states has the same bytes where they are mapped, and one of which tasks
-- live in both the same under each number
pub record HoldSame (s t : State) : Type 0 where
  pub made : s.made ≡ t.made
  pub bytes : (o : ℕ) → 0 < s.living o + s.handles o → 0 < t.living o + t.handles o → (x : ℕ) → is_mapped s.map x ≡ true
      → (s.contents o).byte x ≡ (t.contents o).byte x
  pub slots : (o : ℕ) → 0 < s.living o → 0 < t.living o → (n : ℕ) → (s.contents o).slot n ≡ (t.contents o).slot n

-- tables whose groups have the same hold states of which this is so, where the same is mapped
abbrev pub TellHeld : Type 0
TellHeld = (a b : Groups) (s t : State) → HaveSame a b → Holds s a → Holds t b → s.map ≡ t.map → HoldSame s t
