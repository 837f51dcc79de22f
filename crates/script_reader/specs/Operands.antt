-- What may stand after each word, and the faults that an operand shows by itself.
use Rattle.std.specs.Prelude.{ℕ, ◌+◌, ◌-◌, ◌^◌, Bool, true, false, ◌&&◌, ◌||◌, not, if◌then◌else◌, ◌==◌, nat_le, List, [], ◌∷◌, length}
use Rattle.std.specs.Prelude.{Option, Some, None, is_some, slice_get, ℤ, pos, neg_ℤ, int_le, bytes_eq, codes}
use Rattle.std.specs.Option.{option_and_then}
use Rattle.lex_core.specs.declared.line.Token.{Token}
use Rattle.lex_core.specs.declared.line.Token.TheVariants.{Bare, Quoted}
use Rattle.lex_core.specs.declared.reason.Reason.{Reason}
use Rattle.lex_core.specs.declared.reason.Reason.TheVariants as reason
use Rattle.lex_core.specs.Numbers as numbers
use Rattle.bpf_filter.specs.Text as text
use Rattle.bpf_filter.specs.Text.{below}
use Rattle.sys_abi.specs.Calls.{call_number_of}
use Rattle.hist_model.specs.Ranges.{is_page_address}
use Rattle.hist_model.specs.ScriptRules.{is_call_number, may_be_handled, may_be_sent}
use Rattle.script_reader.specs.declared.word.Word.{Word}
use Rattle.script_reader.specs.declared.word.Word.TheVariants as word
use Rattle.script_reader.specs.declared.operand.Operand.{Operand}
use Rattle.script_reader.specs.declared.operand.Operand.TheVariants as operand
use Rattle.script_reader.specs.declared.operand.Addressee.{Addressee}
use Rattle.script_reader.specs.declared.operand.Addressee.TheVariants as addressee
use Rattle.script_reader.specs.Paths.{is_path, has_zero, root_path, is_task_text}

-- ---- what an operand says

abbrev pub token_bytes : Token → List ℕ
token_bytes (Bare word) = word
token_bytes (Quoted bytes) = bytes

-- such a word is meant as a number: it begins with `-` or a digit
abbrev pub begins_number : List ℕ → Bool
begins_number [] = false
begins_number (b ∷ bs) = (b == 45) || (nat_le 48 b && nat_le b 57)

-- the number that the operand at a place is
abbrev pub number_in : List Token → ℕ → Option ℤ
number_in operands place = option_and_then text.number (slice_get operands place)

-- the call that is named so; what begins as a number is no name
abbrev pub named_call : List ℕ → Option ℤ
named_call name = if begins_number name then None else call_number_of name

-- the call that the operand at a place names
abbrev pub call_in : List Token → ℕ → Option ℤ
call_in operands place = option_and_then (λ token. named_call (token_bytes token)) (slice_get operands place)

-- ---- whom a signal is for

abbrev pub addressee_of : List ℕ → Addressee
addressee_of word =
    if bytes_eq word (codes "self") then addressee.Own
    else (if bytes_eq word (codes "parent") then addressee.Parent
    else (if bytes_eq word (codes "child") then addressee.Child
    else (if bytes_eq word (codes "pid") then addressee.Pid
    else addressee.Unknown)))

-- a text between quotes is no word
abbrev pub addressee_in : List Token → Addressee
addressee_in [] = addressee.Unknown
addressee_in (Bare word ∷ more) = addressee_of word
addressee_in (Quoted bytes ∷ more) = addressee.Unknown

-- ---- how many operands stand after a word: at least, and at most

abbrev pub kill_counts : Addressee → ℕ × ℕ
kill_counts addressee.Own = (2, 2)
kill_counts addressee.Parent = (2, 2)
kill_counts addressee.Child = (3, 3)
kill_counts addressee.Pid = (3, 3)
kill_counts addressee.Unknown = (2, 3)

abbrev pub counts : Word → List Token → ℕ × ℕ
counts word.Killable operands = (0, 0)
counts word.Link operands = (2, 2)
counts word.Chr operands = (3, 3)
counts word.Blk operands = (3, 3)
counts word.Attr operands = (3, 3)
counts word.Map operands = (2, 2)
counts word.Cgroup operands = (2, 2)
counts word.Figures operands = (6, 6)
counts word.Notify operands = (1, 64)
counts word.Filter operands = (0, 1)
counts word.Poke operands = (2, 2)
counts word.Fill operands = (3, 3)
counts word.Call operands = (1, 7)
counts word.Kill operands = kill_counts (addressee_in operands)
counts word.Handler operands = (2, 2)
counts word.Wait operands = (0, 0)
counts word.Exit operands = (0, 0)
counts word.Schedule operands = (0, 0)
counts word.Task operands = (1, 2)
counts word.Worker operands = (1, 2)
counts word.End operands = (0, 0)
counts _ operands = (1, 1)

abbrev pub is_counted : Word → List Token → Bool
is_counted w operands = nat_le (counts w operands).0 (length operands) && nat_le (length operands) (counts w operands).1

-- ---- what the operand at each place has to be

abbrev pub natural : ℕ → ℕ → Operand
natural least most = operand.Number (pos least) (pos most)

-- a number of 64 bits
abbrev pub wide : Operand
wide = natural 0 (2 ^ 64 - 1)

-- a number of 64 bits, with a sign or without
abbrev pub argument : Operand
argument = operand.Number (neg_ℤ (pos (2 ^ 63))) (pos (2 ^ 64 - 1))

-- any number at all
abbrev pub any_number : Operand
any_number = operand.Number (neg_ℤ (pos (2 ^ 100))) (pos (2 ^ 100))

-- the number after the word of whom a signal is for
abbrev pub kill_number : Addressee → Operand
kill_number addressee.Child = natural 1 100000
kill_number addressee.Pid = natural 0 (2 ^ 32 - 1)
kill_number _ = any_number

-- the signal comes last
abbrev pub kill_operand : List Token → ℕ → Operand
kill_operand operands place =
    if place == 0 then operand.Whom
    else (if place + 1 == length operands then operand.Signal else kill_number (addressee_in operands))

abbrev pub device_operand : ℕ → Operand
device_operand place = if place == 0 then operand.Path else (if place == 1 then natural 0 4095 else natural 0 1048575)

abbrev pub attr_operand : ℕ → Operand
attr_operand place = if place == 0 then operand.Path else (if place == 1 then operand.Text 1 255 false else operand.Text 0 4096 true)

abbrev pub fill_operand : ℕ → Operand
fill_operand place = if place == 0 then wide else (if place == 1 then natural 1 65536 else natural 0 255)

-- the first operand is of one kind, and the others of another
abbrev pub first_or : ℕ → Operand → Operand → Operand
first_or place first other = if place == 0 then first else other

abbrev pub operand_at : Word → List Token → ℕ → Operand
operand_at word.Pidmax operands place = natural 1 4194304
operand_at word.Pidbase operands place = natural 0 4194303
operand_at word.Rlimit operands place = natural 0 4096
operand_at word.Dir operands place = operand.Path
operand_at word.Reg operands place = operand.Path
operand_at word.Fifo operands place = operand.Path
operand_at word.Sock operands place = operand.Path
operand_at word.Link operands place = first_or place operand.Path (operand.Text 1 4095 false)
operand_at word.Chr operands place = device_operand place
operand_at word.Blk operands place = device_operand place
operand_at word.Attr operands place = attr_operand place
operand_at word.Root operands place = operand.Root
operand_at word.Broker operands place = natural 0 1023
operand_at word.Map operands place = first_or place operand.Page (natural 1 64)
operand_at word.Figures operands place = if place == 5 then natural 0 65535 else wide
operand_at word.Notify operands place = operand.CallName
operand_at word.Filter operands place = operand.Listener
operand_at word.Prog operands place = operand.Program
operand_at word.Poke operands place = first_or place wide (operand.Text 1 65536 true)
operand_at word.Fill operands place = fill_operand place
operand_at word.Call operands place = first_or place operand.Call argument
operand_at word.Spawn operands place = operand.Program
operand_at word.Thread operands place = operand.Program
operand_at word.Kill operands place = kill_operand operands place
operand_at word.Handler operands place = first_or place operand.Handled operand.Disposition
operand_at word.Task operands place = first_or place operand.Task (natural 1 200000)
operand_at word.Worker operands place = first_or place (natural 0 15) (natural 1 200000)
operand_at _ operands place = wide

-- ---- the faults that an operand shows by itself

abbrev pub fault_unless : Bool → Reason → Option Reason
fault_unless true reason = None
fault_unless false reason = Some reason

-- a multiple of 4096 up to 2^47
abbrev pub is_page : Option ℕ → Bool
is_page None = false
is_page (Some n) = is_page_address n

abbrev pub is_handled_signal : Option ℕ → Bool
is_handled_signal None = false
is_handled_signal (Some n) = may_be_handled n

abbrev pub is_sent_signal : Option ℕ → Bool
is_sent_signal None = false
is_sent_signal (Some n) = may_be_sent n

-- the number may stand there
abbrev pub is_allowed : Operand → ℤ → Bool
is_allowed (operand.Number least most) n = int_le least n && int_le n most
is_allowed operand.Page n = is_page (below (2 ^ 64) n)
is_allowed operand.Signal n = is_sent_signal (below (2 ^ 64) n)
is_allowed operand.Handled n = is_handled_signal (below (2 ^ 64) n)
is_allowed operand.Call n = is_call_number n
is_allowed _ n = false

abbrev pub number_fault : Operand → Option ℤ → Option Reason
number_fault kind None = Some reason.BadNumber
number_fault kind (Some n) = fault_unless (is_allowed kind n) reason.OutOfRange

abbrev pub is_call_name : List ℕ → Bool
is_call_name word = is_some (call_number_of word)

abbrev pub is_disposition : List ℕ → Bool
is_disposition word = bytes_eq word (codes "default") || bytes_eq word (codes "restart") || bytes_eq word (codes "plain")

abbrev pub is_addressee : Addressee → Bool
is_addressee addressee.Unknown = false
is_addressee _ = true

abbrev pub call_fault : List ℕ → Option Reason
call_fault word =
    if begins_number word then number_fault operand.Call (numbers.number word)
    else fault_unless (is_call_name word) reason.UnknownName

-- an operand without quotes
abbrev pub word_fault : Operand → List ℕ → Option Reason
word_fault operand.Program word = fault_unless (nat_le (length word) 64) reason.OutOfRange
word_fault operand.CallName word = fault_unless (is_call_name word) reason.UnknownName
word_fault operand.Call word = call_fault word
word_fault operand.Disposition word = fault_unless (is_disposition word) reason.UnknownName
word_fault operand.Listener word = fault_unless (bytes_eq word (codes "listener")) reason.UnknownName
word_fault operand.Whom word = fault_unless (is_addressee (addressee_of word)) reason.UnknownName
word_fault operand.Task word = fault_unless (is_task_text word) reason.BadNumber
word_fault kind word = number_fault kind (numbers.number word)

-- an operand between quotes
abbrev pub text_fault : Operand → List ℕ → Option Reason
text_fault operand.Path bytes = fault_unless (is_path bytes) reason.BadPath
text_fault operand.Root bytes = fault_unless (bytes_eq bytes root_path || is_path bytes) reason.BadPath
text_fault (operand.Text least most zeros) bytes =
    fault_unless (nat_le least (length bytes) && nat_le (length bytes) most && (zeros || not (has_zero bytes))) reason.OutOfRange
text_fault _ bytes = Some reason.WrongForm

-- the operand belongs between quotes
abbrev pub is_text : Operand → Bool
is_text operand.Path = true
is_text operand.Root = true
is_text (operand.Text least most zeros) = true
is_text _ = false

abbrev pub operand_fault : Operand → Token → Option Reason
operand_fault kind (Bare word) = if is_text kind then Some reason.WrongForm else word_fault kind word
operand_fault kind (Quoted bytes) = text_fault kind bytes

-- of the operand at a place; none after the last one
abbrev pub fault_at : Operand → List Token → ℕ → Option Reason
fault_at kind operands place = option_and_then (operand_fault kind) (slice_get operands place)

-- ---- the fault of all operands

-- the place of a reason in the table of reasons, among those that an operand shows by itself
abbrev pub rank : Reason → ℕ
rank reason.WrongForm = 0
rank reason.BadNumber = 1
rank reason.OutOfRange = 2
rank reason.BadPath = 3
rank _ = 4

-- of two faults, the one whose reason stands first in the table
abbrev pub earlier : Option Reason → Option Reason → Option Reason
earlier None later = later
earlier (Some reason) None = Some reason
earlier (Some reason) (Some other) = if nat_le (rank reason) (rank other) then Some reason else Some other

-- of the operands from a place on
unfoldable pub fault_from : Word → List Token → ℕ → List Token → Option Reason
fault_from w operands place [] = None
fault_from w operands place (token ∷ more) =
    earlier (operand_fault (operand_at w operands place) token) (fault_from w operands (place + 1) more)

-- too few or too many operands come before all that one operand shows
abbrev pub operands_fault : Word → List Token → Option Reason
operands_fault w operands = if is_counted w operands then fault_from w operands 0 operands else Some reason.WrongCount
