-- The copy of a call's arguments: which texts a call has in its caller's memory (mknod(2), openat(2), mount(2), setxattr(2)),
-- what they are at one moment, and how they are read in pieces.
use Rattle.std.specs.Prelude.{ℕ, zero, suc, ◌+◌, ◌-◌, ◌%◌, ◌^◌, min, Bool, true, false, ◌&&◌, if◌then◌else◌, ◌==◌, nat_lt, nat_le, List, []}
use Rattle.std.specs.Prelude.{◌∷◌, ◌++◌, length, slice_index_or, Option, Some, None, Result, Ok, Err, ℤ}
use Rattle.hist_model.specs.declared.copy.Part.{Part}
use Rattle.hist_model.specs.declared.copy.Part.TheVariants.{Text, Value}
use Rattle.call_table.specs.declared.kinds.CallText.{CallText}
use Rattle.call_table.specs.declared.kinds.CallText.TheVariants.{Path, Source, Fstype, Data, Name, Program}
use Rattle.call_table.specs.Table.{Row, row_of}
use Rattle.call_table.specs.declared.kinds.CallText.TheVariants as call_text
use Rattle.sys_abi.specs.Errnos.{e2big, efault, einval, erange, enametoolong}

-- ---- the plan

abbrev pub arg : List ℕ → ℕ → ℕ
arg args i = slice_index_or args i 0

-- a path: ENAMETOOLONG where it doesn't end
abbrev pub path_at : ℕ → Part
path_at address = Text address 4096 enametoolong

-- an argument of mount that may be missing, which is then empty: EINVAL where it doesn't end
abbrev pub option_at : ℕ → Part
option_at address = if address == 0 then Value 0 0 else Text address 4096 einval

-- the name of an attribute: ERANGE where it doesn't end
abbrev pub name_at : ℕ → Part
name_at address = Text address 256 erange

-- what is read of a text of a call: nothing of what the policy adds
abbrev pub part_for : CallText → List ℕ → List Part
part_for (Path r) args = path_at (arg args r) ∷ []
part_for (Source r) args = option_at (arg args r) ∷ []
part_for (Fstype r) args = option_at (arg args r) ∷ []
part_for (Data r) args = option_at (arg args r) ∷ []
part_for (Name r) args = name_at (arg args r) ∷ []
part_for (call_text.Value r size) args = Value (arg args r) (arg args size) ∷ []
part_for Program args = []

abbrev pub parts_for : List CallText → List ℕ → List Part
parts_for [] args = []
parts_for (t ∷ ts) args = part_for t args ++ parts_for ts args

abbrev pub plan_by_row : Option Row → List ℕ → List Part
plan_by_row None args = []
plan_by_row (Some row) args = parts_for row.texts args

-- what is read for a call, in order
abbrev pub plan : ℤ → List ℕ → List Part
plan nr args = plan_by_row (row_of nr) args

-- ---- the copy at one moment. The byte at an address is given by a function, which is none where it isn't mapped.

-- the address so many bytes on: addresses have 64 bits
abbrev pub further : ℕ → ℕ → ℕ
further address n = (address + n) % 2 ^ 64

abbrev pub with_bytes : List ℕ → Result (List ℕ) ℕ → Result (List ℕ) ℕ
with_bytes bytes (Ok text) = Ok (bytes ++ text)
with_bytes bytes (Err e) = Err e

-- a text that begins with this byte and goes on from the next address; EFAULT where the byte isn't mapped
abbrev pub text_after : Option ℕ → (ℕ → Result (List ℕ) ℕ) → ℕ → Result (List ℕ) ℕ
text_after None rest address = Err efault
text_after (Some zero) rest address = Ok []
text_after (Some (suc b)) rest address = with_bytes (suc b ∷ []) (rest (further address 1))

-- the text at an address, of at most so many bytes with its zero
unfoldable pub text_from : (ℕ → Option ℕ) → ℕ → ℕ → ℕ → Result (List ℕ) ℕ
text_from byte fault zero address = Err fault
text_from byte fault (suc n) address = text_after (byte address) (text_from byte fault n) address

abbrev pub value_after : Option ℕ → (ℕ → Result (List ℕ) ℕ) → ℕ → Result (List ℕ) ℕ
value_after None rest address = Err efault
value_after (Some b) rest address = with_bytes (b ∷ []) (rest (further address 1))

-- so many bytes from an address on
unfoldable pub value_from : (ℕ → Option ℕ) → ℕ → ℕ → Result (List ℕ) ℕ
value_from byte zero address = Ok []
value_from byte (suc n) address = value_after (byte address) (value_from byte n) address

-- a value of more than 4096 bytes is E2BIG, and isn't read
abbrev pub sized_value : Bool → (ℕ → Option ℕ) → ℕ → ℕ → Result (List ℕ) ℕ
sized_value true byte address size = Err e2big
sized_value false byte address size = value_from byte size address

abbrev pub copy_part : (ℕ → Option ℕ) → Part → Result (List ℕ) ℕ
copy_part byte (Text address limit fault) = text_from byte fault limit address
copy_part byte (Value address size) = sized_value (nat_lt 4096 size) byte address size

abbrev pub with_text : Result (List ℕ) ℕ → Result (List (List ℕ)) ℕ → Result (List (List ℕ)) ℕ
with_text (Ok text) (Ok texts) = Ok (text ∷ texts)
with_text (Ok text) (Err e) = Err e
with_text (Err e) texts = Err e

-- the texts of a plan, in order, or the first fault
unfoldable pub copy_of : (ℕ → Option ℕ) → List Part → Result (List (List ℕ)) ℕ
copy_of byte [] = Ok []
copy_of byte (part ∷ parts) = with_text (copy_part byte part) (copy_of byte parts)

-- ---- the copy in pieces. The answers are those of the reads so far, the oldest first: some bytes, or EFAULT.

-- the length of the piece at an address where so many bytes are left: it ends at a multiple of 256
abbrev pub piece : ℕ → ℕ → ℕ
piece address left = min (256 - address % 256) left

abbrev pub has_zero : List ℕ → Bool
has_zero [] = false
has_zero (b ∷ more) = if b == 0 then true else has_zero more

abbrev pub before_zero : List ℕ → List ℕ
before_zero [] = []
before_zero (b ∷ more) = if b == 0 then [] else b ∷ before_zero more

-- a text of which some answers were read: it asks for a piece, at an address and of a length; it is whole, and answers are
-- left for the texts after it; or it has a fault
pub data Reading : Type 0 where
  Asks : ℕ → ℕ → Reading
  Whole : List ℕ → List (Result (List ℕ) ℕ) → Reading
  Fails : ℕ → Reading

abbrev pub begun_with : List ℕ → Reading → Reading
begun_with bytes (Asks address n) = Asks address n
begun_with bytes (Whole text later) = Whole (bytes ++ text) later
begun_with bytes (Fails e) = Fails e

-- a text after a piece without a zero: its own fault where nothing is left, else it goes on behind the piece
abbrev pub text_goes_on : Bool → ℕ → List ℕ → (ℕ → ℕ → Reading) → ℕ → ℕ → Reading
text_goes_on true fault bytes rest address left = Fails fault
text_goes_on false fault bytes rest address left = begun_with bytes (rest (further address (length bytes)) (left - length bytes))

-- a text after a piece: whole where the piece has a zero
abbrev pub text_piece : Bool → ℕ → List ℕ → List (Result (List ℕ) ℕ) → (ℕ → ℕ → Reading) → ℕ → ℕ → Reading
text_piece true fault bytes later rest address left = Whole (before_zero bytes) later
text_piece false fault bytes later rest address left = text_goes_on (nat_le left (length bytes)) fault bytes rest address left

-- the reading of a text at an address, of which at most so many bytes are left
unfoldable pub read_text : ℕ → List (Result (List ℕ) ℕ) → ℕ → ℕ → Reading
read_text fault [] address left = Asks address (piece address left)
read_text fault (Ok bytes ∷ later) address left = text_piece (has_zero bytes) fault bytes later (read_text fault later) address left
read_text fault (Err e ∷ later) address left = Fails e

-- a value after a piece: whole where nothing is left
abbrev pub value_piece : Bool → List ℕ → List (Result (List ℕ) ℕ) → (ℕ → ℕ → Reading) → ℕ → ℕ → Reading
value_piece true bytes later rest address left = Whole bytes later
value_piece false bytes later rest address left = begun_with bytes (rest (further address (length bytes)) (left - length bytes))

-- the reading of a value at an address, of which so many bytes are left, but not 0
unfoldable pub read_value : List (Result (List ℕ) ℕ) → ℕ → ℕ → Reading
read_value [] address left = Asks address (piece address left)
read_value (Ok bytes ∷ later) address left = value_piece (nat_le left (length bytes)) bytes later (read_value later) address left
read_value (Err e ∷ later) address left = Fails e

-- a value of size 0 isn't read
abbrev pub read_sized : Bool → Bool → List (Result (List ℕ) ℕ) → ℕ → ℕ → Reading
read_sized true empty answers address size = Fails e2big
read_sized false true answers address size = Whole [] answers
read_sized false false answers address size = read_value answers address size

abbrev pub read_part : Part → List (Result (List ℕ) ℕ) → Reading
read_part (Text address limit fault) answers = read_text fault answers address limit
read_part (Value address size) answers = read_sized (nat_lt 4096 size) (size == 0) answers address size

-- how far a copy is: it wants a piece, at an address and of a length; it is complete, with its texts; or it has a fault
pub data Progress : Type 0 where
  Wants : ℕ → ℕ → Progress
  Complete : List (List ℕ) → Progress
  Faulty : ℕ → Progress

abbrev pub progress_with : List ℕ → Progress → Progress
progress_with text (Wants address n) = Wants address n
progress_with text (Complete texts) = Complete (text ∷ texts)
progress_with text (Faulty e) = Faulty e

abbrev pub progress_after : Reading → (List (Result (List ℕ) ℕ) → Progress) → Progress
progress_after (Asks address n) rest = Wants address n
progress_after (Whole text later) rest = progress_with text (rest later)
progress_after (Fails e) rest = Faulty e

-- how far the copy of a plan is after these answers
unfoldable pub progress : List Part → List (Result (List ℕ) ℕ) → Progress
progress [] answers = Complete []
progress (part ∷ parts) answers = progress_after (read_part part answers) (progress parts)

-- the piece to read, at an address and of a length
abbrev pub wanted : Progress → Option (ℕ × ℕ)
wanted (Wants address n) = Some (address, n)
wanted _ = None

-- it answers the piece: some bytes, at most as many as were asked for, or EFAULT
abbrev pub fits_piece : Option (ℕ × ℕ) → Result (List ℕ) ℕ → Bool
fits_piece (Some asked) (Ok bytes) = nat_le 1 (length bytes) && nat_le (length bytes) asked.1
fits_piece (Some asked) (Err e) = e == efault
fits_piece None answer = false

-- one more answer, where it answers the piece that is wanted
abbrev pub with_heard : List Part → List (Result (List ℕ) ℕ) → Result (List ℕ) ℕ → List (Result (List ℕ) ℕ)
with_heard parts taken a = if fits_piece (wanted (progress parts taken)) a then taken ++ a ∷ [] else taken

-- the answers that were taken, and those of the further ones, the oldest first, that answer the piece that is then wanted
unfoldable pub heard : List Part → List (Result (List ℕ) ℕ) → List (Result (List ℕ) ℕ) → List (Result (List ℕ) ℕ)
heard parts taken [] = taken
heard parts taken (a ∷ later) = heard parts (with_heard parts taken a) later
