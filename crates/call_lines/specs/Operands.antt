-- What a token means where a call has an operand. Names are those of policies.
use Rattle.std.specs.Prelude.{ℕ, ◌&&◌, if◌then◌else◌, ◌==◌, List, [], ◌∷◌, Option, Some, None, option_and_then}
use Rattle.std.specs.Prelude.{Ok, Err, ℤ, pos, negsuc, is_some, bit_or, bytes_eq, codes}
use Rattle.std.specs.Int.Signed.{le_z}
use Rattle.std.specs.List.{list_any}
use Rattle.std.specs.Ordering.{int_eq}
use Rattle.lex_core.specs.Numbers.{number}
use Rattle.lex_core.specs.declared.line.Token.{Token}
use Rattle.lex_core.specs.declared.line.Token.TheVariants.{Bare, Quoted}
use Rattle.lex_core.specs.declared.reason.Reason.TheVariants.{BadNumber, OutOfRange, UnknownName, WrongForm}
use Rattle.hist_model.specs.RuleParts.{call_of_flag}
use Rattle.hist_model.specs.declared.policy.Cond.{Cond}
use Rattle.hist_model.specs.declared.policy.Cond.TheVariants.{Dev}
use Rattle.hist_model.specs.declared.policy.Flag.{Flag}
use Rattle.hist_model.specs.declared.policy.Flag.TheVariants as flag
use Rattle.hist_model.specs.declared.request.Kind.{Kind}
use Rattle.policy_reader.specs.Conditions.{device_parts, kinds}
use Rattle.policy_reader.specs.Flags.{flag_names}
use Rattle.policy_reader.specs.Readings.{named}
use Rattle.policy_reader.specs.Texts.{behind, cut_at, items_of}
use Rattle.sys_abi.specs.Calls.{call_name_of}
use Rattle.sys_abi.specs.Devices.{device_number}
use Rattle.call_lines.specs.Readings.{Reading, and_then, known}

-- ---- texts

-- any bytes, between quotes
abbrev pub bytes : Token → Reading (List ℕ)
bytes (Quoted text) = Ok text
bytes (Bare _) = Err WrongForm

abbrev pub without_zeros : List ℕ → Reading (List ℕ)
without_zeros text = if list_any (λ b. b == 0) text then Err OutOfRange else Ok text

-- a text that ends at a zero byte in the caller's memory, so that it has none of its own
abbrev pub text : Token → Reading (List ℕ)
text token = and_then (bytes token) without_zeros

-- ---- numbers

-- a number that lies between these two, or is one of them
abbrev pub within : ℤ → ℤ → Option ℤ → Reading ℤ
within low high (Some n) = if le_z low n && le_z n high then Ok n else Err OutOfRange
within low high None = Err BadNumber

-- AT_FDCWD stands for -100
abbrev pub descriptor_of : List ℕ → Reading ℤ
descriptor_of word =
    if bytes_eq word (codes "AT_FDCWD") then Ok (negsuc 99) else within (negsuc 2147483647) (pos 2147483647) (number word)

-- the descriptor of a directory, of 32 bits with a sign
abbrev pub descriptor : Token → Reading ℤ
descriptor (Bare word) = descriptor_of word
descriptor (Quoted _) = Err WrongForm

-- a call that has a name is written by its name
abbrev pub unnamed : ℤ → Reading ℤ
unnamed nr = if is_some (call_name_of nr) then Err OutOfRange else Ok nr

-- the number of a call that has no name, below 2^31
abbrev pub call_number : Token → Reading ℤ
call_number (Bare word) = and_then (within (pos 0) (pos 2147483647) (number word)) unnamed
call_number (Quoted _) = Err WrongForm

-- ---- nodes

-- the kind of a node
abbrev pub kind : Token → Reading Kind
kind (Bare word) = known (named kinds word)
kind (Quoted _) = Err WrongForm

abbrev pub device_numbered : Option Cond → Reading ℕ
device_numbered (Some (Dev major minor)) = Ok (device_number major minor)
device_numbered _ = Err BadNumber

-- the number of a device, which is written MAJOR:MINOR
abbrev pub device : Token → Reading ℕ
device (Bare word) = device_numbered (device_parts (cut_at 58 word))
device (Quoted _) = Err WrongForm

abbrev pub natural : ℤ → ℕ
natural (pos n) = n
natural (negsuc n) = 0

abbrev pub permissions_of : Option (List ℕ) → Reading ℕ
permissions_of (Some digits) = and_then (within (pos 0) (pos 4095) (number digits)) (λ n. Ok (natural n))
permissions_of None = Err UnknownName

-- the permission bits of a mode, which are written mode=NUMBER
abbrev pub permissions : Token → Reading ℕ
permissions (Bare word) = permissions_of (behind (codes "mode=") word)
permissions (Quoted _) = Err WrongForm

-- ---- flags

abbrev pub bit_of : Flag → ℕ
bit_of (flag.Mount bit) = bit
bit_of (flag.Attribute bit) = bit

-- the bit of a flag, where it is one of this call
abbrev pub bit_for : ℤ → Flag → Option ℕ
bit_for nr f = if int_eq (call_of_flag f) nr then Some (bit_of f) else None

-- the bit of the flag of this name
abbrev pub bit_named : ℤ → List ℕ → Reading ℕ
bit_named nr name = known (option_and_then (bit_for nr) (named flag_names name))

-- these bits, and those of the flags of these names
unfoldable pub bits_with : ℤ → ℕ → List (List ℕ) → Reading ℕ
bits_with nr bits [] = Ok bits
bits_with nr bits (name ∷ names) = and_then (bit_named nr name) (λ bit. bits_with nr (bit_or bits bit) names)

abbrev pub flags_of : ℤ → List ℕ → Reading ℕ
flags_of nr word = if bytes_eq word (codes "-") then Ok 0 else bits_with nr 0 (items_of word)

-- the bits of flags of this call, whose names stand between commas; `-` is none
abbrev pub flags : ℤ → Token → Reading ℕ
flags nr (Bare word) = flags_of nr word
flags nr (Quoted _) = Err WrongForm
