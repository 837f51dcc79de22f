-- The table of calls: the texts and the numbers of each, from where its relative paths go, and how what is done for it is written
-- (syscalls(2), and each call's own page).
use Rattle.std.specs.List.{list_any}
use Rattle.std.specs.Prelude.{ℕ, ◌==◌, Bool, true, false, List, [], ◌∷◌, find, Option, Some, None, ℤ, pos, negsuc}
pub use Rattle.call_table.specs.declared.kinds.CallText.{CallText}
pub use Rattle.call_table.specs.declared.kinds.CallText.TheVariants.{Path, Source, Fstype, Data, Name, Value, Program}
pub use Rattle.call_table.specs.declared.kinds.CallNumber.{CallNumber}
pub use Rattle.call_table.specs.declared.kinds.CallNumber.TheVariants.{Descriptor, Mode, Device, Flags, WideFlags, Address, Shift}
pub use Rattle.call_table.specs.declared.kinds.PathBase.{PathBase}
pub use Rattle.call_table.specs.declared.kinds.PathBase.TheVariants.{Nowhere, WorkingDirectory, Register}
pub use Rattle.call_table.specs.declared.kinds.LinePiece.{LinePiece}
pub use Rattle.call_table.specs.declared.kinds.LinePiece.TheVariants as piece
use Rattle.sys_abi.specs.Calls.{nr_close, nr_getpid, nr_sysinfo, nr_mknod, nr_mount, nr_setxattr, nr_openat, nr_mknodat}

-- a call of the table
pub record Row : Type 0 where
  pub nr : ℕ
  -- from where its relative paths go, its texts, and its numbers
  pub base : PathBase
  pub texts : List CallText
  pub numbers : List CallNumber
  -- the line of its effect, after its name
  pub line : List LinePiece
  -- the lane in which a call of this kind is served
  pub lane : ℕ
  -- an effect of it may be granted
  pub may_be_granted : Bool

-- a call without fields
abbrev pub bare : ℕ → Row
bare nr = record { nr = nr; base = Nowhere; texts = []; numbers = []; line = []; lane = 5; may_be_granted = false }

abbrev pub sysinfo_row : Row
sysinfo_row = record {
  nr = nr_sysinfo;
  base = Nowhere;
  texts = [];
  numbers = Address 0 ∷ [];
  line = [];
  lane = 3;
  may_be_granted = true;
}

abbrev pub mknod_row : Row
mknod_row = record {
  nr = nr_mknod;
  base = WorkingDirectory;
  texts = Path 0 ∷ [];
  numbers = Mode 1 ∷ Device 2 ∷ [];
  line = piece.Quoted 0 ∷ piece.Node 0 1 ∷ [];
  lane = 0;
  may_be_granted = true;
}

abbrev pub mount_row : Row
mount_row = record {
  nr = nr_mount;
  base = WorkingDirectory;
  texts = Source 0 ∷ Path 1 ∷ Fstype 2 ∷ Data 4 ∷ Program ∷ [];
  numbers = WideFlags 3 ∷ Shift ∷ [];
  line = piece.Quoted 0 ∷ piece.Quoted 1 ∷ piece.Quoted 2 ∷ piece.Flags 0 ∷ piece.Data 3 ∷ piece.Via 4 ∷ piece.Shifted 1 ∷ [];
  lane = 1;
  may_be_granted = true;
}

abbrev pub setxattr_row : Row
setxattr_row = record {
  nr = nr_setxattr;
  base = WorkingDirectory;
  texts = Path 0 ∷ Name 1 ∷ Value 2 3 ∷ [];
  numbers = Flags 4 ∷ [];
  line = piece.Quoted 0 ∷ piece.Quoted 1 ∷ piece.Hexed 2 ∷ piece.Flags 0 ∷ [];
  lane = 2;
  may_be_granted = true;
}

abbrev pub openat_row : Row
openat_row = record {
  nr = nr_openat;
  base = Register 0;
  texts = Path 1 ∷ [];
  numbers = Descriptor 0 ∷ Flags 2 ∷ [];
  line = [];
  lane = 4;
  may_be_granted = false;
}

abbrev pub mknodat_row : Row
mknodat_row = record {
  nr = nr_mknodat;
  base = Register 0;
  texts = Path 1 ∷ [];
  numbers = Mode 2 ∷ Device 3 ∷ Descriptor 0 ∷ [];
  line = piece.Signed 2 ∷ piece.Quoted 0 ∷ piece.Node 0 1 ∷ [];
  lane = 0;
  may_be_granted = true;
}

abbrev pub table : List Row
table = bare nr_close ∷ bare nr_getpid ∷ sysinfo_row ∷ mknod_row ∷ mount_row ∷ setxattr_row ∷ openat_row ∷ mknodat_row ∷ []

-- the row of a number, if it has one
abbrev pub row_in : List Row → ℕ → Option Row
row_in rows n = find (λ (row : Row). n == row.nr) rows

abbrev pub row_of : ℤ → Option Row
row_of (pos n) = row_in table n
row_of (negsuc n) = None

-- ---- what a call has

abbrev pub passes : (Row → Bool) → Option Row → Bool
passes test None = false
passes test (Some row) = test row

-- the number has a row, which passes the test
abbrev pub is_call_with : (Row → Bool) → ℤ → Bool
is_call_with test nr = passes test (row_of nr)

abbrev pub is_path : CallText → Bool
is_path (Path r) = true
is_path _ = false

abbrev pub is_mode : CallNumber → Bool
is_mode (Mode r) = true
is_mode _ = false

abbrev pub has_path : Row → Bool
has_path row = list_any is_path row.texts

-- it makes a node of a mode
abbrev pub makes_node : Row → Bool
makes_node row = list_any is_mode row.numbers

abbrev pub may_be_granted : Row → Bool
may_be_granted row = row.may_be_granted

-- from where the relative paths of a call go: nowhere of one without a row
abbrev pub base_by_row : Option Row → PathBase
base_by_row None = Nowhere
base_by_row (Some row) = row.base

-- the lane in which a call is served: 5 of one without a row
abbrev pub lane_by_row : Option Row → ℕ
lane_by_row None = 5
lane_by_row (Some row) = row.lane

-- the line of an effect of a call, after its name: nothing of one without a row
abbrev pub line_by_row : Option Row → List LinePiece
line_by_row None = []
line_by_row (Some row) = row.line
