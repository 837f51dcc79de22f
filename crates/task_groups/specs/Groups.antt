-- Which state the groups hold, and the room that calls want.
use Rattle.std.specs.Prelude.{◌≡◌, ℕ, ◌+◌, ◌<◌, ◌≤◌, ◌^◌, true, List, length, Ok, Err, Option, Some, None, Result}
use Rattle.sys_abi.specs.Errnos.{efault}
use Rattle.sys_abi.specs.declared.memory.OrNoMemory.{OrNoMemory}
use Rattle.sys_abi.specs.declared.memory.OrNoMemory.TheVariants.{Refused, NoMemory}
use Rattle.hist_model.specs.Memory.{is_mapped}
use Rattle.hist_model.specs.declared.request.Fault.{Fault}
use Rattle.hist_model.specs.declared.script.MapRange.{MapRange}
use Rattle.sorted_list.specs.Entries.{entry_for}
use Rattle.task_groups.specs.Descriptors.{descriptor_number}
use Rattle.task_groups.specs.Pages.{byte_in}
use Rattle.task_groups.specs.Ranges.{AllEndLow}
use Rattle.task_groups.specs.Rows.{Row, row_at, rows_of, obj_in, IsSound, HasCopyRoom, HasPageRoom, HasDescriptorRoom}
use Rattle.task_groups.specs.State.{Contents, State}
use Rattle.task_groups.specs.declared.groups.Groups.{Groups}
use Rattle.task_groups.specs.declared.groups.OverLimit.{OverLimit}
use Rattle.task_groups.specs.declared.pages.Pages.{Pages}

-- a row has this, where somebody holds it and where it is mapped
pub record Has (map : List MapRange) (P : Pages) (r : Row) (c : Contents) : Type 0 where
  pub bytes : 0 < r.living + r.handles → (a : ℕ) → is_mapped map a ≡ true → byte_in P r.pages a ≡ c.byte a
  pub slots : 0 < r.living → (n : ℕ) → obj_in (entry_for descriptor_number r.descriptors n) ≡ c.slot n

-- the row of a group: so many hold it, and it has what the state says
pub record IsGroup (s : State) (G : Groups) (o : ℕ) (r : Row) : Type 0 where
  pub living_is : r.living ≡ s.living o
  pub handles_is : r.handles ≡ s.handles o
  pub has : Has s.map G.pages r (s.contents o)

-- the groups hold the state
pub record Holds (s : State) (G : Groups) : Type 0 where
  pub sound : IsSound G
  pub map_is : G.map.items ≡ s.map
  pub low : AllEndLow s.map
  pub rlimit_is : G.rlimit ≡ s.rlimit
  pub made : length (rows_of G) ≡ s.made
  pub rows : (o : ℕ) (r : Row) → row_at G o ≡ Some r → IsGroup s G o r
  -- nobody is of a group that isn't made
  pub no_tasks : (o : ℕ) → s.made ≤ o → s.living o ≡ 0
  pub no_handles : (o : ℕ) → s.made ≤ o → s.handles o ≡ 0

-- the group has a row
abbrev pub HasRow : Groups → ℕ → Type 0
HasRow G o = (r : Row) × (row_at G o ≡ Some r)

-- the group has a living task, and fewer than 2 ^ 63 hold it
pub record IsLive (G : Groups) (o : ℕ) : Type 0 where
  pub row : Row
  pub at : row_at G o ≡ Some row
  pub lives : 0 < row.living
  pub few : row.living + row.handles < 2 ^ 63

-- one copy of the group, or storing so many bytes or opening one number in it, takes no memory
pub record HasRoom (G : Groups) (o len : ℕ) : Type 0 where
  pub copy : HasCopyRoom G o
  pub pages : HasPageRoom G o len
  pub descriptor : HasDescriptorRoom G o

-- storing n bytes in the group takes no memory
pub record HasRoomFor (G : Groups) (o n : ℕ) : Type 0 where
  pub len : ℕ
  pub fits : n ≤ len
  pub room : HasRoom G o len

-- storing n bytes in the memory of the group takes no memory
pub record HasStoreRoom (G : Groups) (o n : ℕ) : Type 0 where
  pub len : ℕ
  pub fits : n ≤ len
  pub room : HasPageRoom G o len

-- what a read answered, with the bytes that it left
abbrev pub IsReadAnswer : Result (Unit {0}) (OrNoMemory Fault) → List ℕ → Result (List ℕ) ℕ → Type 0
IsReadAnswer (Ok u) out answer = answer ≡ Ok out
IsReadAnswer (Err (Refused f)) out answer = answer ≡ Err efault
IsReadAnswer (Err NoMemory) out answer = Unit {0}

-- the number that was given
abbrev pub number_given : Result ℕ OverLimit → Option ℕ
number_given (Ok n) = Some n
number_given (Err e) = None
