-- The words of a report: numbers, names, errors, and bytes as text.
use Rattle.std.specs.Prelude.{ℕ, ◌+◌, ◌/◌, ◌%◌, ◌&&◌, ◌||◌, if◌then◌else◌, ◌==◌, nat_lt, nat_le, List, [], ◌∷◌, ◌++◌, Option, Some, None}
use Rattle.std.specs.Prelude.{Result, Ok, Err, ℤ, bytes_eq, codes, decimal}
use Rattle.std.specs.Fmt.{signed_decimal}
use Rattle.std.specs.List.{flat_map, join_by}
use Rattle.sys_abi.specs.Errnos.{errno_name}
use Rattle.sys_abi.specs.Calls.{call_name_of}
use Rattle.hist_model.specs.Look.{Name}
use Rattle.hist_model.specs.ShortNames.{is_short_name_byte}
use Rattle.hist_model.specs.declared.event.Actor.{Actor}
use Rattle.hist_model.specs.declared.event.Actor.TheVariants.{Start, Task, Worker, Listener}
use Rattle.hist_model.specs.declared.event.Back.{Back}
use Rattle.hist_model.specs.declared.event.Back.TheVariants.{Value, Fail, Continue}

-- a digit of base 16, with small letters
abbrev pub hex_digit : ℕ → ℕ
hex_digit d = if nat_lt d 10 then 48 + d else 87 + d

-- a byte as two digits of base 16
abbrev pub hex_byte : ℕ → List ℕ
hex_byte b = hex_digit (b / 16) ∷ hex_digit (b % 16) ∷ []

-- bytes as digits of base 16
abbrev pub hex : List ℕ → List ℕ
hex bytes = flat_map hex_byte bytes

-- the same, or `-` where there is no byte
abbrev pub hex_or_dash : List ℕ → List ℕ
hex_or_dash [] = codes "-"
hex_or_dash (b ∷ bytes) = hex (b ∷ bytes)

-- one more byte before the rest; a zero byte is dropped where nothing follows
abbrev pub trim_onto : ℕ → List ℕ → List ℕ
trim_onto b [] = if b == 0 then [] else b ∷ []
trim_onto b (c ∷ rest) = b ∷ c ∷ rest

-- the bytes without the zero bytes at their end
abbrev pub trimmed : List ℕ → List ℕ
trimmed [] = []
trimmed (b ∷ bytes) = trim_onto b (trimmed bytes)

-- a byte in a quoted text: `"` and `\` after a `\`, an unprintable byte in base 16
abbrev pub quoted_byte : ℕ → List ℕ
quoted_byte b =
    if b == 34 || b == 92 then 92 ∷ b ∷ []
    else (if nat_le 32 b && nat_le b 126 then b ∷ [] else 92 ∷ 120 ∷ hex_byte b)

-- a text between quotes
abbrev pub quoted : List ℕ → List ℕ
quoted text = codes "\"" ++ flat_map quoted_byte text ++ codes "\""

-- a byte that names of file systems and programs have in a policy as it is, any other in base 16
abbrev pub escaped_byte : ℕ → List ℕ
escaped_byte b = if is_short_name_byte b then b ∷ [] else 92 ∷ 120 ∷ hex_byte b

-- a text of any bytes in the place of such a name
abbrev pub escaped : List ℕ → List ℕ
escaped text = flat_map escaped_byte text

-- the same, or `-` where it is empty
abbrev pub escaped_or_dash : List ℕ → List ℕ
escaped_or_dash [] = codes "-"
escaped_or_dash (b ∷ text) = escaped (b ∷ text)

-- the program that serves a mount, or `-` where none does: one of this name is written in base 16
abbrev pub program_text : List ℕ → List ℕ
program_text program = if bytes_eq program (codes "-") then codes "\\x2d" else escaped_or_dash program

-- the numbers of a task's name, with points between them
abbrev pub name_text : Name → List ℕ
name_text n = join_by decimal (codes ".") n

abbrev pub errno_text_of : Option (List ℕ) → ℕ → List ℕ
errno_text_of (Some name) e = name
errno_text_of None e = codes "E" ++ decimal e

-- an error's name, or `E` and its number
abbrev pub errno_text : ℕ → List ℕ
errno_text e = errno_text_of (errno_name e) e

abbrev pub call_text_of : Option (List ℕ) → ℤ → List ℕ
call_text_of (Some name) nr = name
call_text_of None nr = signed_decimal nr

-- a call's name, or its number
abbrev pub call_text : ℤ → List ℕ
call_text nr = call_text_of (call_name_of nr) nr

-- `ok`, or an error
abbrev pub result_text : Result (Unit {0}) ℕ → List ℕ
result_text (Ok u) = codes "ok"
result_text (Err e) = errno_text e

-- a number, or an error
abbrev pub number_text : Result ℕ ℕ → List ℕ
number_text (Ok n) = decimal n
number_text (Err e) = errno_text e

-- how a call returns
abbrev pub back_text : Back → List ℕ
back_text (Value v) = signed_decimal v
back_text (Fail e) = errno_text e
back_text Continue = codes "continue"

-- who takes a step
abbrev pub actor_text : Actor → List ℕ
actor_text Start = codes "-"
actor_text (Task n) = codes "t" ++ name_text n
actor_text (Worker w) = codes "w" ++ decimal w
actor_text Listener = codes "listener"
