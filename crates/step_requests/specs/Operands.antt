-- What may stand behind the words of a line, and the faults that an operand shows by itself. Operands have the places of their
-- tokens in the line, counted from 0.
use Rattle.std.specs.Prelude.{ℕ, ◌+◌, ◌-◌, ◌^◌, Bool, ◌&&◌, ◌||◌, not, if◌then◌else◌, ◌==◌, nat_le, List, [], ◌∷◌, length}
use Rattle.std.specs.Prelude.{true, false, Option, Some, None, slice_get, ℤ, pos, neg_ℤ, int_le, bytes_eq, codes, Result, Ok, Err}
use Rattle.std.specs.Option.{option_and_then}
use Rattle.hex.specs.Hex.{decode_sized}
use Rattle.hex.specs.declared.error.FromHexError.{FromHexError}
use Rattle.hex.specs.declared.error.FromHexError.TheVariants.{InvalidHexCharacter}
use Rattle.hist_model.specs.TreeLines.{has_zero}
use Rattle.lex_core.specs.declared.line.Token.{Token}
use Rattle.lex_core.specs.declared.line.Token.TheVariants.{Bare, Quoted}
use Rattle.lex_core.specs.declared.reason.Reason.{Reason}
use Rattle.lex_core.specs.declared.reason.Reason.TheVariants as reason
use Rattle.lex_core.specs.Numbers as numbers
use Rattle.step_requests.specs.declared.word.Form.{Form}
use Rattle.step_requests.specs.declared.word.Form.TheVariants as form
use Rattle.step_requests.specs.declared.word.Deed.{Deed}
use Rattle.step_requests.specs.declared.word.Deed.TheVariants as deed
use Rattle.step_requests.specs.declared.word.LookAt.{LookAt}
use Rattle.step_requests.specs.declared.word.LookAt.TheVariants as look
use Rattle.step_requests.specs.declared.operand.Operand.{Operand}
use Rattle.step_requests.specs.declared.operand.Operand.TheVariants as operand
use Rattle.step_requests.specs.declared.operand.Structure.{Structure}
use Rattle.step_requests.specs.declared.operand.Structure.TheVariants as structure
use Rattle.step_requests.specs.Names.{is_task_text}

-- ---- how many bytes a structure has

abbrev pub size_of : Structure → ℕ
size_of structure.Notif = 80
size_of structure.Resp = 24
size_of structure.Addfd = 24
size_of structure.Sysinfo = 112

-- ---- how many tokens a line has

-- the words and the number of the worker, before the operands: `act` has one more word than the others
abbrev pub words_before : Deed → ℕ
words_before deed.Mknod = 4
words_before deed.Mknodat = 4
words_before deed.Mount = 4
words_before deed.SetXattr = 4
words_before _ = 3

-- how many operands a worker's request has at least
abbrev pub operand_count : Deed → ℕ
operand_count deed.RecvRaw = 1
operand_count deed.OpenMem = 1
operand_count deed.OpenBase = 2
operand_count deed.Check = 1
operand_count deed.Read = 2
operand_count deed.Mknod = 3
operand_count deed.Mknodat = 4
operand_count deed.Mount = 5
operand_count deed.SetXattr = 4
operand_count deed.Plant = 2
operand_count deed.Addfd = 5
operand_count deed.AddfdRaw = 1
operand_count deed.Send = 4
operand_count deed.SendRaw = 1
operand_count _ = 0

-- how many more it may have: a mount's program and its shift
abbrev pub more_operands : Deed → ℕ
more_operands deed.Mount = 3
more_operands _ = 0

-- how many operands a `look` has
abbrev pub look_count : LookAt → ℕ
look_count look.Pid = 1
look_count look.Fd = 2
look_count look.Path = 4
look_count look.Listener = 0

-- how many tokens a line has at least
abbrev pub least_tokens : Form → ℕ
least_tokens form.Task = 2
least_tokens (form.Judge true) = 2
least_tokens (form.Worker d) = words_before d + operand_count d
least_tokens (form.Look at) = 2 + look_count at
least_tokens _ = 1

-- how many tokens it may have beyond that
abbrev pub spare_tokens : Form → ℕ
spare_tokens (form.Worker d) = more_operands d
spare_tokens _ = 0

abbrev pub is_counted : Form → List Token → Bool
is_counted f line = nat_le (least_tokens f) (length line) && nat_le (length line) (least_tokens f + spare_tokens f)

-- ---- what the operand at each place has to be

abbrev pub natural : ℕ → Operand
natural most = operand.Number (pos 0) (pos most)

-- a number without a sign, of 16, 32 and 64 bits
abbrev pub half : Operand
half = natural (2 ^ 16 - 1)

abbrev pub word : Operand
word = natural (2 ^ 32 - 1)

abbrev pub wide : Operand
wide = natural (2 ^ 64 - 1)

-- a number with a sign, of 32 and 64 bits
abbrev pub signed_word : Operand
signed_word = operand.Number (neg_ℤ (pos (2 ^ 31))) (pos (2 ^ 31 - 1))

abbrev pub signed_wide : Operand
signed_wide = operand.Number (neg_ℤ (pos (2 ^ 63))) (pos (2 ^ 63 - 1))

-- the number of a worker: one above 15 has a refusal of its own
abbrev pub seat : Operand
seat = natural (2 ^ 100)

-- a text without a zero byte
abbrev pub c_string : Operand
c_string = operand.Text false

-- the first operand is of one kind, and the others of another
abbrev pub first_or : ℕ → Operand → Operand → Operand
first_or place first other = if place == 0 then first else other

-- the path, the mode and the device of a node
abbrev pub mknod_operand : ℕ → Operand
mknod_operand place = if place == 0 then c_string else (if place == 1 then word else wide)

abbrev pub mknodat_operand : ℕ → Operand
mknodat_operand place = if place == 0 then signed_word else mknod_operand (place - 1)

-- behind a mount's data: the word `via` and a program, the word `shift`, or both in this order
abbrev pub tail_operand : ℕ → ℕ → Operand
tail_operand count place =
    if place == 5 then (if count == 6 then operand.Shift else operand.Via)
    else (if place == 6 then c_string else operand.Shift)

-- the source, the target, the type, the flags and the data
abbrev pub mount_operand : ℕ → ℕ → Operand
mount_operand count place = if place == 3 then wide else (if nat_le 5 place then tail_operand count place else c_string)

-- the path, the name, the value and the flags
abbrev pub setxattr_operand : ℕ → Operand
setxattr_operand place = if place == 3 then wide else (if place == 2 then operand.Text true else c_string)

-- the id, the value, the error and the flags of an answer
abbrev pub send_operand : ℕ → Operand
send_operand place = if place == 0 then wide else (if place == 1 then signed_wide else (if place == 2 then signed_word else word))

-- of a worker's request with so many operands; places are counted from 0 among the operands
abbrev pub deed_operand : Deed → ℕ → ℕ → Operand
deed_operand deed.RecvRaw count place = operand.Bytes structure.Notif
deed_operand deed.OpenMem count place = word
deed_operand deed.OpenBase count place = first_or place word signed_word
deed_operand deed.Read count place = first_or place wide half
deed_operand deed.Mknod count place = mknod_operand place
deed_operand deed.Mknodat count place = mknodat_operand place
deed_operand deed.Mount count place = mount_operand count place
deed_operand deed.SetXattr count place = setxattr_operand place
deed_operand deed.Plant count place = first_or place wide (operand.Bytes structure.Sysinfo)
deed_operand deed.Addfd count place = first_or place wide word
deed_operand deed.AddfdRaw count place = operand.Bytes structure.Addfd
deed_operand deed.Send count place = send_operand place
deed_operand deed.SendRaw count place = operand.Bytes structure.Resp
deed_operand _ count place = wide

-- the number of the worker stands among the words
abbrev pub worker_operand : Deed → ℕ → ℕ → Operand
worker_operand d tokens place =
    if place == 1 then seat
    else (if nat_le (words_before d) place then deed_operand d (tokens - words_before d) (place - words_before d) else operand.Word)

-- the PID, the descriptor, the path, and whether a link at its end is followed
abbrev pub look_path_operand : ℕ → Operand
look_path_operand place =
    if place == 0 then word else (if place == 1 then signed_word else (if place == 2 then c_string else operand.Follow))

-- of what is looked at; the PID, and a descriptor of its task
abbrev pub looked_operand : LookAt → ℕ → Operand
looked_operand look.Path place = look_path_operand place
looked_operand _ place = word

-- before these stand two words
abbrev pub look_operand : LookAt → ℕ → Operand
look_operand at place = if nat_le 2 place then looked_operand at (place - 2) else operand.Word

-- of a line with so many tokens
abbrev pub operand_at : Form → ℕ → ℕ → Operand
operand_at (form.Worker d) tokens place = worker_operand d tokens place
operand_at (form.Judge idle) tokens place = operand.Word
operand_at (form.Look at) tokens place = look_operand at place
operand_at _ tokens place = first_or place operand.Word operand.Task

-- ---- the faults that an operand shows by itself

abbrev pub fault_unless : Bool → Reason → Option Reason
fault_unless true why = None
fault_unless false why = Some why

abbrev pub number_fault : ℤ → ℤ → Option ℤ → Option Reason
number_fault least most None = Some reason.BadNumber
number_fault least most (Some n) = fault_unless (int_le least n && int_le n most) reason.OutOfRange

-- another count of digits than a structure has is out of range, and another byte is no number
abbrev pub decoding_fault : Result (List ℕ) FromHexError → Option Reason
decoding_fault (Ok bytes) = None
decoding_fault (Err (InvalidHexCharacter c i)) = Some reason.BadNumber
decoding_fault (Err _) = Some reason.OutOfRange

abbrev pub hex_fault : Structure → List ℕ → Option Reason
hex_fault s digits = decoding_fault (decode_sized digits (size_of s))

-- the word says whether a link is followed
abbrev pub says_follow : List ℕ → Bool
says_follow bytes = bytes_eq bytes (codes "follow") || bytes_eq bytes (codes "nofollow")

-- an operand without quotes
abbrev pub word_fault : Operand → List ℕ → Option Reason
word_fault operand.Word bytes = None
word_fault (operand.Number least most) bytes = number_fault least most (numbers.number bytes)
word_fault (operand.Bytes s) bytes = hex_fault s bytes
word_fault operand.Task bytes = fault_unless (is_task_text bytes) reason.BadNumber
word_fault operand.Via bytes = fault_unless (bytes_eq bytes (codes "via")) reason.UnknownName
word_fault operand.Shift bytes = fault_unless (bytes_eq bytes (codes "shift")) reason.UnknownName
word_fault operand.Follow bytes = fault_unless (says_follow bytes) reason.UnknownName
word_fault (operand.Text zeros) bytes = Some reason.WrongForm

-- an operand between quotes
abbrev pub text_fault : Operand → List ℕ → Option Reason
text_fault (operand.Text zeros) bytes = fault_unless (zeros || not (has_zero bytes)) reason.OutOfRange
text_fault _ bytes = Some reason.WrongForm

abbrev pub operand_fault : Operand → Token → Option Reason
operand_fault kind (Bare bytes) = word_fault kind bytes
operand_fault kind (Quoted bytes) = text_fault kind bytes

-- of the operand at a place; none behind the last one
abbrev pub fault_at : Operand → List Token → ℕ → Option Reason
fault_at kind line place = option_and_then (operand_fault kind) (slice_get line place)

-- ---- the fault of all operands

-- the place of a reason in the table of reasons, among those that an operand shows by itself
abbrev pub rank : Reason → ℕ
rank reason.WrongForm = 0
rank reason.BadNumber = 1
rank reason.OutOfRange = 2
rank _ = 3

-- of two faults, the one whose reason stands first in the table
abbrev pub earlier : Option Reason → Option Reason → Option Reason
earlier None later = later
earlier (Some reason) None = Some reason
earlier (Some reason) (Some other) = if nat_le (rank reason) (rank other) then Some reason else Some other

-- of the tokens from a place on, in a line with so many
unfoldable pub fault_from : Form → ℕ → ℕ → List Token → Option Reason
fault_from f tokens place [] = None
fault_from f tokens place (token ∷ more) = earlier (operand_fault (operand_at f tokens place) token) (fault_from f tokens (place + 1) more)

-- too few or too many tokens come before all that one operand shows
abbrev pub line_fault : Form → List Token → Option Reason
line_fault f line = if is_counted f line then fault_from f (length line) 0 line else Some reason.WrongCount
