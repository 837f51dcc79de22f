-- What a call asks for, from its number, its six arguments and the texts that were read for it
-- (mknod(2), mount(2), setxattr(2), openat(2), sysinfo(2)). The texts stand in the order of the call's plan.
use Rattle.std.specs.Prelude.{ℕ, ◌+◌, ◌/◌, ◌%◌, Bool, true, false, if◌then◌else◌, ◌==◌, ◌||◌, List, [], ◌∷◌, get_or, slice_get}
use Rattle.std.specs.Prelude.{Option, Some, None, ℤ, pos, negsuc}
use Rattle.std.specs.Int.{w32, cast_signed}
use Rattle.call_table.specs.declared.kinds.CallNumber.{CallNumber}
use Rattle.call_table.specs.declared.kinds.CallNumber.TheVariants.{Descriptor, Mode, Device, Flags, WideFlags, Address, Shift}
use Rattle.call_table.specs.declared.kinds.CallText.{CallText}
use Rattle.call_table.specs.declared.kinds.CallText.TheVariants.{Program}
use Rattle.call_table.specs.declared.kinds.PathBase.{PathBase}
use Rattle.call_table.specs.declared.kinds.PathBase.TheVariants.{Nowhere, WorkingDirectory, Register}
use Rattle.call_table.specs.Table.{Row, base_by_row, row_of}
pub use Rattle.sys_abi.specs.Devices.{major_of, minor_of}
use Rattle.hist_model.specs.declared.policy.Rule.{Rule}
use Rattle.hist_model.specs.declared.request.Kind.{Kind}
use Rattle.hist_model.specs.declared.request.Kind.TheVariants.{Reg, Chr, Blk, Fifo, Sock, Dir, Bad}
use Rattle.hist_model.specs.declared.request.Request.{Request}
use Rattle.hist_model.specs.declared.request.Request.TheVariants.{Mknod, Mount, SetXattr, OpenAt, Sysinfo, Other}
use Rattle.sys_abi.specs.Calls.{nr_sysinfo, nr_mknod, nr_mount, nr_setxattr, nr_openat, nr_mknodat}

-- the low 16 bits of a number
abbrev pub low_16 : ℕ → ℕ
low_16 n = n % 65536

-- the low 32 bits of a number
abbrev pub low_32 : ℕ → ℕ
low_32 n = n % 4294967296

-- the low 32 bits of a number, read as a signed number
abbrev pub signed_32 : ℕ → ℤ
signed_32 n = cast_signed w32 (low_32 n)

-- an argument of a call, counted from 0
abbrev pub argument : List ℕ → ℕ → ℕ
argument args i = get_or args i 0

-- a text that was read for a call, counted from 0; empty where fewer were read
abbrev pub text_at : List (List ℕ) → ℕ → List ℕ
text_at texts i = get_or texts i []

-- ---- a call by its number, its texts and its numbers, whichever call it is

pub record Called : Type 0 where
  pub nr : ℤ
  pub texts : List (List ℕ)
  pub numbers : List ℤ

-- what of a call's texts was read; what the policy adds is empty until then
abbrev pub text_read : CallText → List (List ℕ) → ℕ → List ℕ
text_read Program texts place = []
text_read _ texts place = text_at texts place

abbrev pub texts_read : List CallText → List (List ℕ) → ℕ → List (List ℕ)
texts_read [] texts place = []
texts_read (t ∷ ts) texts place = text_read t texts place ∷ texts_read ts texts (place + 1)

-- what of a register is taken
abbrev pub number_taken : CallNumber → List ℕ → ℤ
number_taken (Descriptor r) args = signed_32 (argument args r)
number_taken (Mode r) args = pos (low_16 (argument args r))
number_taken (Flags r) args = pos (low_32 (argument args r))
number_taken (Device r) args = pos (argument args r)
number_taken (WideFlags r) args = pos (argument args r)
number_taken (Address r) args = pos (argument args r)
number_taken Shift args = pos 0

abbrev pub numbers_taken : List CallNumber → List ℕ → List ℤ
numbers_taken [] args = []
numbers_taken (n ∷ ns) args = number_taken n args ∷ numbers_taken ns args

abbrev pub called_by_row : Option Row → ℤ → List ℕ → List (List ℕ) → Called
called_by_row None nr args texts = record { nr = nr; texts = []; numbers = [] }
called_by_row (Some row) nr args texts = record { nr = nr; texts = texts_read row.texts texts 0; numbers = numbers_taken row.numbers args }

-- a call by its number, its arguments and the texts that were read for it
abbrev pub called_with : ℤ → List ℕ → List (List ℕ) → Called
called_with nr args texts = called_by_row (row_of nr) nr args texts

-- a number of a call, counted from 0; 0 where it has fewer
abbrev pub number_at : Called → ℕ → ℤ
number_at c place = get_or c.numbers place (pos 0)

-- a number that isn't negative
abbrev pub natural : ℤ → ℕ
natural (pos n) = n
natural (negsuc n) = 0

abbrev pub natural_at : Called → ℕ → ℕ
natural_at c place = natural (number_at c place)

-- a call's numbers with their kinds
abbrev pub kinds_by_row : Option Row → List CallNumber
kinds_by_row None = []
kinds_by_row (Some row) = row.numbers

-- the descriptor at a place; 0 in the place of any other number
abbrev pub descriptor_of_kind : Option CallNumber → ℤ → ℤ
descriptor_of_kind (Some (Descriptor r)) number = number
descriptor_of_kind _ number = pos 0

abbrev pub descriptor_at : Called → ℕ → ℤ
descriptor_at c place = descriptor_of_kind (slice_get (kinds_by_row (row_of c.nr)) place) (number_at c place)

abbrev pub is_set_at : Called → ℕ → Bool
is_set_at c place = natural_at c place == 1

-- the call of a mknod: without a descriptor, and with one
abbrev pub call_of_mknod : Option ℤ → ℤ
call_of_mknod None = pos nr_mknod
call_of_mknod (Some fd) = pos nr_mknodat

abbrev pub descriptor_of_mknod : Option ℤ → List ℤ
descriptor_of_mknod None = []
descriptor_of_mknod (Some fd) = fd ∷ []

abbrev pub shift_number : Bool → ℤ
shift_number true = pos 1
shift_number false = pos 0

-- a request as a call
abbrev pub called : Request → Called
called (Mknod dirfd path mode dev) =
    record { nr = call_of_mknod dirfd; texts = path ∷ []; numbers = pos mode ∷ pos dev ∷ descriptor_of_mknod dirfd }
called (Mount source target fstype options via flags shift) =
    record { nr = pos nr_mount; texts = source ∷ target ∷ fstype ∷ options ∷ via ∷ []; numbers = pos flags ∷ shift_number shift ∷ [] }
called (SetXattr path name value flags) = record { nr = pos nr_setxattr; texts = path ∷ name ∷ value ∷ []; numbers = pos flags ∷ [] }
called (OpenAt dirfd path flags) = record { nr = pos nr_openat; texts = path ∷ []; numbers = dirfd ∷ pos flags ∷ [] }
called (Sysinfo addr) = record { nr = pos nr_sysinfo; texts = []; numbers = pos addr ∷ [] }
called (Other nr) = record { nr = nr; texts = []; numbers = [] }

-- and a call as a request: these two alone name each call's own form
abbrev pub request_of_numbered : ℕ → Called → Request
request_of_numbered nr c =
    if nr == nr_sysinfo then Sysinfo (natural_at c 0)
    else if nr == nr_mknod then Mknod None (text_at c.texts 0) (natural_at c 0) (natural_at c 1)
    else if nr == nr_mount
    then Mount (text_at c.texts 0) (text_at c.texts 1) (text_at c.texts 2) (text_at c.texts 3) (text_at c.texts 4) (natural_at c 0)
    (is_set_at c 1)
    else if nr == nr_setxattr then SetXattr (text_at c.texts 0) (text_at c.texts 1) (text_at c.texts 2) (natural_at c 0)
    else if nr == nr_openat then OpenAt (number_at c 0) (text_at c.texts 0) (natural_at c 1)
    else if nr == nr_mknodat then Mknod (Some (number_at c 2)) (text_at c.texts 0) (natural_at c 0) (natural_at c 1)
    else Other (pos nr)

abbrev pub request_of_signed : ℤ → Called → Request
request_of_signed (pos nr) c = request_of_numbered nr c
request_of_signed (negsuc nr) c = Other (negsuc nr)

abbrev pub request_of_call : Called → Request
request_of_call c = request_of_signed c.nr c

-- the request of a call: its number, its arguments and its texts
unfoldable pub request : ℤ → List ℕ → List (List ℕ) → Request
request nr args texts = request_of_call (called_with nr args texts)

-- the number of the call that makes a request
abbrev pub call_of_request : Request → ℤ
call_of_request q = (called q).nr

-- the kind of node by the four bits of a mode that tell it (inode(7))
abbrev pub kind_of_type : ℕ → Kind
kind_of_type t =
    if (t == 0) || (t == 8) then Reg
    else if t == 1 then Fifo
    else if t == 2 then Chr
    else if t == 4 then Dir
    else if t == 6 then Blk
    else if t == 12 then Sock
    else Bad

-- the kind of node that a mode asks for
abbrev pub kind_of : ℕ → Kind
kind_of mode = kind_of_type (mode / 4096 % 16)

-- the request that a rule grants: a mount has the rule's program and shift, and any other is as it was asked
abbrev pub granted : Rule → Request → Request
granted rule (Mount source target fstype options via flags shift) = Mount source target fstype options rule.via flags rule.shift
granted rule q = q

-- the descriptor from which a call's relative paths go: -100 is the container's root, and a call without paths has none
abbrev pub base_at : PathBase → List ℕ → Option ℤ
base_at Nowhere args = None
base_at WorkingDirectory args = Some (negsuc 99)
base_at (Register r) args = Some (signed_32 (argument args r))

unfoldable pub base_dirfd : ℤ → List ℕ → Option ℤ
base_dirfd nr args = base_at (base_by_row (row_of nr)) args
