-- The table of groups: a row for each, and the pages that their lists share.
use Rattle.std.specs.Prelude.{◌≡◌, ℕ, ◌+◌, ◌/◌, ◌<◌, ◌≤◌, ◌^◌, Bool, ◌==◌, if◌then◌else◌, List, [], length, map, set, Option, Some}
use Rattle.std.specs.Prelude.{None, slice_get, vec_len, vec_capacity}
use Rattle.std.specs.List.{sum_by}
use Rattle.hist_model.specs.declared.request.Obj.{Obj}
use Rattle.sorted_list.specs.Entries.{NumbersRise, entry_for}
use Rattle.task_groups.specs.Descriptors.{descriptor_number}
use Rattle.task_groups.specs.Lists.{page_number, uses_in}
use Rattle.task_groups.specs.Pages.{IsStore, IsApart, HasPages, byte_in, count_at}
use Rattle.task_groups.specs.declared.descriptors.Descriptor.{Descriptor}
use Rattle.task_groups.specs.declared.groups.Group.{Group}
use Rattle.task_groups.specs.declared.groups.Groups.{Groups}
use Rattle.task_groups.specs.declared.list.PageEntry.{PageEntry}
use Rattle.task_groups.specs.declared.pages.Pages.{Pages}

-- a group: how many of its tasks live, how many handles are open on its memory, and its pages and descriptors in the order of their numbers
pub record Row : Type 0 where
  pub living : ℕ
  pub handles : ℕ
  pub pages : List PageEntry
  pub descriptors : List Descriptor

abbrev pub row_of : Group → Row
row_of g = record { living = g.living; handles = g.handles; pages = g.pages.items; descriptors = g.descriptors.items }

-- the rows by ordinal, which is how many groups were made before
abbrev pub rows_of : Groups → List Row
rows_of G = map row_of G.rows.items

-- the row of a group
abbrev pub row_at : Groups → ℕ → Option Row
row_at G o = slice_get (rows_of G) o

-- how many entries of these rows have the page of a slot
unfoldable pub uses_all : List Row → ℕ → ℕ
uses_all rows p = sum_by (λ (r : Row). uses_in r.pages p) rows

-- a row is in order, and has nothing that nobody holds: tasks and handles hold the memory, tasks alone the descriptors
pub record IsSoundRow (r : Row) : Type 0 where
  pub pages_rise : NumbersRise page_number r.pages
  pub once : (p : ℕ) → uses_in r.pages p ≤ 1
  pub descriptors_rise : NumbersRise descriptor_number r.descriptors
  pub freed : r.living + r.handles ≡ 0 → r.pages ≡ []
  pub closed : r.living ≡ 0 → r.descriptors ≡ []

-- the pages are those of the rows' lists, and no others
pub record IsSound (G : Groups) : Type 0 where
  pub store : IsStore G.pages
  pub counted : (p : ℕ) → count_at G.pages p ≡ uses_all (rows_of G) p
  pub rows : (o : ℕ) (r : Row) → row_at G o ≡ Some r → IsSoundRow r

-- all but the room is as before
pub record SameGroups (old new : Groups) : Type 0 where
  pub rows : rows_of new ≡ rows_of old
  pub pages : new.pages.slots.slots ≡ old.pages.slots.slots
  pub map : new.map.items ≡ old.map.items
  pub rlimit : new.rlimit ≡ old.rlimit

-- the group has this row now, and every other its own
pub record IsPut (old : Groups) (o : ℕ) (row : Row) (new : Groups) : Type 0 where
  pub rows : rows_of new ≡ set (rows_of old) o row
  pub map : new.map.items ≡ old.map.items
  pub rlimit : new.rlimit ≡ old.rlimit

-- one list of pages changed, with the pages: each other list that is apart from it has the bytes that it had
pub record IsMoved (P : Pages) (xs : List PageEntry) (Q : Pages) (ys : List PageEntry) : Type 0 where
  pub store : IsStore Q
  pub moved : (p : ℕ) → count_at Q p + uses_in xs p ≡ count_at P p + uses_in ys p
  pub others : (zs : List PageEntry) → IsApart P xs zs → (b : ℕ) → byte_in Q zs b ≡ byte_in P zs b

-- the descriptor of a number
abbrev pub descriptor_in : Option Row → ℕ → Option Descriptor
descriptor_in (Some r) n = entry_for descriptor_number r.descriptors n
descriptor_in None n = None

abbrev pub obj_in : Option Descriptor → Option Obj
obj_in (Some d) = Some d.obj
obj_in None = None

abbrev pub mark_in : Option Descriptor → Option Bool
mark_in (Some d) = Some d.cloexec
mark_in None = None

-- the close-on-exec mark of a number of a group that is open
abbrev pub mark_of : Groups → ℕ → ℕ → Option Bool
mark_of G o n = mark_in (descriptor_in (row_at G o) n)

-- the marks of a group are as before, but that of one number
abbrev pub SetsMark : Groups → ℕ → ℕ → Option Bool → Groups → Type 0
SetsMark old o n mark new = (m : ℕ) → mark_of new o m ≡ (if m == n then mark else mark_of old o m)

-- they are as before
abbrev pub SameMarks : Groups → ℕ → Groups → Type 0
SameMarks old o new = (m : ℕ) → mark_of new o m ≡ mark_of old o m

-- ---- room

-- the most pages that so many bytes touch, wherever they begin
abbrev pub most_pages : ℕ → ℕ
most_pages n = n / 4096 + 2

-- one copy of the group takes no memory
abbrev pub HasListRoom : ℕ → ℕ → Option Group → Type 0
HasListRoom pages descriptors (Some g) = (length g.pages.items ≤ pages) × (length g.descriptors.items ≤ descriptors)
HasListRoom pages descriptors None = ⊥

pub record HasCopyRoom (G : Groups) (o : ℕ) : Type 0 where
  pub ordinal : vec_len G.rows + 1 < 2 ^ 32
  pub row : vec_len G.rows < vec_capacity G.rows
  pub lists : HasListRoom (vec_capacity G.spare_pages) (vec_capacity G.spare_descriptors) (slice_get G.rows.items o)

abbrev pub HasEntries : Option Group → ℕ → Type 0
HasEntries (Some g) k = vec_len g.pages + k ≤ vec_capacity g.pages
HasEntries None k = ⊥

-- storing n bytes in the memory of the group takes no memory
pub record HasPageRoom (G : Groups) (o n : ℕ) : Type 0 where
  pub pages : HasPages G.pages (most_pages n)
  pub entries : HasEntries (slice_get G.rows.items o) (most_pages n)

abbrev pub HasDescriptorRoomIn : Option Group → Type 0
HasDescriptorRoomIn (Some g) = vec_len g.descriptors < vec_capacity g.descriptors
HasDescriptorRoomIn None = ⊥

-- opening one number in the group takes no memory
abbrev pub HasDescriptorRoom : Groups → ℕ → Type 0
HasDescriptorRoom G o = HasDescriptorRoomIn (slice_get G.rows.items o)
