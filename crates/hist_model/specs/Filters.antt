-- Filters: the instructions of bpf(4) as seccomp(2) runs them on each call, and what their answers mean for the call.
use Rattle.std.specs.Prelude.{ℕ, zero, suc, ◌+◌, ◌-◌, ◌*◌, ◌/◌, ◌%◌, ◌^◌, min, Bool, true, false, ◌||◌, not, if◌then◌else◌, ◌==◌, nat_lt}
use Rattle.std.specs.Prelude.{nat_le, List, [], ◌∷◌, length, map, reverse, slice_index_or, Option, Some, None, ℤ, bit_and, bit_or, bit_xor}
use Rattle.std.specs.Int.{w32, cast_unsigned}
use Rattle.sys_abi.specs.declared.wire.SeccompData.{SeccompData}
use Rattle.hist_model.specs.declared.script.Insn.{Insn}
use Rattle.hist_model.specs.declared.script.FilterLine.{FilterLine}
use Rattle.hist_model.specs.declared.filter.Operation.{Operation}
use Rattle.hist_model.specs.declared.filter.Operation.TheVariants.{Load, Immediate, Add, Subtract, Or, And, Xor, ShiftLeft}
use Rattle.hist_model.specs.declared.filter.Operation.TheVariants.{ShiftRight, Negate, Jump, JumpEqual, JumpGreater}
use Rattle.hist_model.specs.declared.filter.Operation.TheVariants.{JumpAtLeast, JumpSet, Return, Unknown}
use Rattle.hist_model.specs.declared.filter.Effect.{Effect}
use Rattle.hist_model.specs.declared.filter.Effect.TheVariants.{Answers, Goes}
use Rattle.hist_model.specs.declared.filter.BadFilter.{BadFilter}
use Rattle.hist_model.specs.declared.filter.FilterReason.{FilterReason}
use Rattle.hist_model.specs.declared.filter.FilterReason.TheVariants.{Empty, TooMany, BadCode, BadLoad}
use Rattle.hist_model.specs.declared.filter.FilterReason.TheVariants.{BadShift, BadJump, BadAction, NoReturn}
use Rattle.hist_model.specs.declared.event.Entered.{Entered}
use Rattle.hist_model.specs.declared.event.Entered.TheVariants.{Notify, Allow, Log, Fails, NoSys, Kill}

-- ---- instructions

-- the operation of a code
abbrev pub operation : ℕ → Operation
operation code =
    if code == 0x20 then Load
    else (if code == 0x00 then Immediate
    else (if code == 0x04 then Add
    else (if code == 0x14 then Subtract
    else (if code == 0x44 then Or
    else (if code == 0x54 then And
    else (if code == 0xa4 then Xor
    else (if code == 0x64 then ShiftLeft
    else (if code == 0x74 then ShiftRight
    else (if code == 0x84 then Negate
    else (if code == 0x05 then Jump
    else (if code == 0x15 then JumpEqual
    else (if code == 0x25 then JumpGreater
    else (if code == 0x35 then JumpAtLeast
    else (if code == 0x45 then JumpSet
    else (if code == 0x06 then Return
    else Unknown)))))))))))))))

-- numbers of 64 bits, as words of 32 bits, the low one first
abbrev pub halves : List ℕ → List ℕ
halves [] = []
halves (n ∷ more) = n % 2 ^ 32 ∷ n / 2 ^ 32 ∷ halves more

-- the 64 bytes of seccomp_data, as sixteen little-endian words
abbrev pub words : SeccompData → List ℕ
words call = cast_unsigned w32 call.nr ∷ call.arch ∷ halves (call.ip ∷ call.args)

-- what an instruction does with the accumulator `a`; a code that isn't known answers 0
abbrev pub does : Operation → List ℕ → Insn → ℕ → Effect
does Load input i a = Goes 0 (slice_index_or input (i.k / 4) 0)
does Immediate input i a = Goes 0 i.k
does Add input i a = Goes 0 ((a + i.k) % 2 ^ 32)
does Subtract input i a = Goes 0 ((a + (2 ^ 32 - i.k)) % 2 ^ 32)
does Or input i a = Goes 0 (bit_or a i.k)
does And input i a = Goes 0 (bit_and a i.k)
does Xor input i a = Goes 0 (bit_xor a i.k)
does ShiftLeft input i a = Goes 0 ((a * 2 ^ i.k) % 2 ^ 32)
does ShiftRight input i a = Goes 0 (a / 2 ^ i.k)
does Negate input i a = Goes 0 ((2 ^ 32 - a) % 2 ^ 32)
does Jump input i a = Goes i.k a
does JumpEqual input i a = Goes (if a == i.k then i.jt else i.jf) a
does JumpGreater input i a = Goes (if nat_lt i.k a then i.jt else i.jf) a
does JumpAtLeast input i a = Goes (if nat_le i.k a then i.jt else i.jf) a
does JumpSet input i a = Goes (if bit_and a i.k == 0 then i.jf else i.jt) a
does Return input i a = Answers i.k
does Unknown input i a = Answers 0

abbrev pub step : List ℕ → Insn → ℕ → Effect
step input i a = does (operation i.code) input i a

abbrev pub after : Effect → (ℕ → ℕ → ℕ) → ℕ
after (Answers value) rest = value
after (Goes skipped a) rest = rest skipped a

-- the answer of the instructions that follow, of which the first `skipped` are skipped, with the accumulator `a`;
-- where none is left it is 0
unfoldable pub run_from : List ℕ → List Insn → ℕ → ℕ → ℕ
run_from input [] skipped a = 0
run_from input (i ∷ more) zero a = after (step input i a) (run_from input more)
run_from input (i ∷ more) (suc skipped) a = run_from input more skipped a

-- the answer of a filter to a call
abbrev pub run : List Insn → SeccompData → ℕ
run insns call = run_from (words call) insns 0 0

-- ---- which filters are accepted

-- the action of an answer, and its data
abbrev pub action : ℕ → ℕ
action value = bit_and value 0xffff0000

abbrev pub action_data : ℕ → ℕ
action_data value = bit_and value 0xffff

abbrev pub fault_if : Bool → FilterReason → Option FilterReason
fault_if true reason = Some reason
fault_if false reason = None

-- what is wrong with an instruction that `left` instructions follow
abbrev pub operation_fault : Operation → Insn → ℕ → Option FilterReason
operation_fault Load i left = fault_if (nat_lt 60 i.k || not (i.k % 4 == 0)) BadLoad
operation_fault ShiftLeft i left = fault_if (nat_le 32 i.k) BadShift
operation_fault ShiftRight i left = fault_if (nat_le 32 i.k) BadShift
operation_fault Jump i left = fault_if (nat_le left i.k) BadJump
operation_fault JumpEqual i left = fault_if (nat_le left i.jt || nat_le left i.jf) BadJump
operation_fault JumpGreater i left = fault_if (nat_le left i.jt || nat_le left i.jf) BadJump
operation_fault JumpAtLeast i left = fault_if (nat_le left i.jt || nat_le left i.jf) BadJump
operation_fault JumpSet i left = fault_if (nat_le left i.jt || nat_le left i.jf) BadJump
operation_fault Return i left = fault_if (action i.k == 0x00030000) BadAction
operation_fault Unknown i left = Some BadCode
operation_fault _ i left = None

abbrev pub insn_fault : Insn → ℕ → Option FilterReason
insn_fault i left = operation_fault (operation i.code) i left

abbrev pub returns : Operation → Bool
returns Return = true
returns _ = false

-- the fault of one instruction, else that of those after it
abbrev pub earlier_fault : ℕ → Option FilterReason → Option BadFilter → Option BadFilter
earlier_fault place (Some reason) later = Some (record { at = place; reason = reason })
earlier_fault place None later = later

-- the first fault of instructions, the first of which is at this place
unfoldable pub fault_among : ℕ → List Insn → Option BadFilter
fault_among place [] = None
fault_among place (i ∷ more) = earlier_fault place (insn_fault i (length more)) (fault_among (place + 1) more)

abbrev pub insn : ℕ → ℕ → ℕ → ℕ → Insn
insn code k jt jf = record { code = code; jt = jt; jf = jf; k = k }

-- the last instruction is a return
abbrev pub ends_with_return : List Insn → Bool
ends_with_return insns = returns (operation (slice_index_or insns (length insns - 1) (insn 0 0 0 0)).code)

abbrev pub end_fault : List Insn → Option BadFilter
end_fault insns = if ends_with_return insns then None else Some (record { at = length insns - 1; reason = NoReturn })

abbrev pub or_fault : Option BadFilter → Option BadFilter → Option BadFilter
or_fault (Some fault) later = Some fault
or_fault None later = later

-- the first fault of a filter: its length, then its instructions, then how it ends; none where it is accepted
abbrev pub first_fault : List Insn → Option BadFilter
first_fault insns =
    if length insns == 0 then Some (record { at = 0; reason = Empty })
    else (if nat_lt 4096 (length insns) then Some (record { at = 4096; reason = TooMany })
    else or_fault (fault_among 0 insns) (end_fault insns))

-- ---- what the answers mean

-- how far an action stands above the least one, where actions are signed numbers of 32 bits
abbrev pub rank : ℕ → ℕ
rank value = (action value + 2 ^ 31) % 2 ^ 32

-- the answer of a newer filter and the place of it beside what the older ones gave: the lesser action goes before, and
-- of two equal ones the newer
abbrev pub with_newer : ℕ → ℕ × ℕ → ℕ × ℕ
with_newer value older = if nat_lt (rank older.0) (rank value) then (older.0, older.1 + 1) else (value, 0)

-- of the filters' answers, the newest first, the one that counts, and its place; ALLOW where there is none
unfoldable pub combine : List ℕ → ℕ × ℕ
combine [] = (0x7fff0000, 0)
combine (value ∷ older) = with_newer value (combine older)

-- what an answer does; `listener` is whether its filter has the listener
abbrev pub entered : ℕ → Bool → Entered
entered value listener =
    if action value == 0x00050000 then Fails (min (action_data value) 4095)
    else (if action value == 0x7fc00000 then (if listener then Notify 0 else NoSys)
    else (if action value == 0x7ff00000 then NoSys
    else (if action value == 0x7ffc0000 then Log
    else (if action value == 0x7fff0000 then Allow
    else Kill))))

-- the data of a call of this architecture, AUDIT_ARCH_X86_64
abbrev pub seccomp_data : ℤ → List ℕ → SeccompData
seccomp_data nr args = record { nr = nr; arch = 0xc000003e; ip = 0; args = args }

abbrev pub answers : List FilterLine → SeccompData → List ℕ
answers filters call = map (λ f. run f.insns call) filters

-- whether the filter at a place has the listener
abbrev pub has_listener : List FilterLine → ℕ → Bool
has_listener [] place = false
has_listener (f ∷ older) zero = f.listener
has_listener (f ∷ older) (suc place) = has_listener older place

-- the answer that counts, the newest filter first, and whether its filter has the listener
abbrev pub chosen : List FilterLine → SeccompData → ℕ × Bool
chosen filters call =
    let c = combine (answers filters call) in
    (c.0, has_listener filters c.1)

-- what the filters say of a call, the oldest filter first, as a script states them; the id of a notification is 0 here
abbrev pub verdict : List FilterLine → ℤ → List ℕ → Entered
verdict filters nr args =
    let c = chosen (reverse filters) (seccomp_data nr args) in
    entered c.0 c.1

-- ---- the filter that notifies on some calls

-- the tests of the call's number: a listed one goes to the last instruction, and any other to the one before
abbrev pub call_tests : List ℤ → List Insn
call_tests [] = insn 0x06 0x7fff0000 0 0 ∷ insn 0x06 0x7fc00000 0 0 ∷ []
call_tests (nr ∷ more) = insn 0x15 (cast_unsigned w32 nr) (length more + 1) 0 ∷ call_tests more

-- kills on another architecture, notifies on these calls and allows all others
abbrev pub notify_filter : List ℤ → List Insn
notify_filter calls =
    insn 0x20 4 0 0 ∷ insn 0x15 0xc000003e 1 0 ∷ insn 0x06 0x80000000 0 0 ∷ insn 0x20 0 0 0 ∷ call_tests calls

abbrev pub is_listed : List ℤ → ℤ → Bool
is_listed [] nr = false
is_listed (call ∷ more) nr = cast_unsigned w32 nr == cast_unsigned w32 call || is_listed more nr

-- the answer of that filter
abbrev pub notify_answer : List ℤ → SeccompData → ℕ
notify_answer calls call =
    if call.arch == 0xc000003e then (if is_listed calls call.nr then 0x7fc00000 else 0x7fff0000) else 0x80000000
