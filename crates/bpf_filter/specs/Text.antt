-- The text of an instruction: a word, and numbers behind it.
use Rattle.std.specs.Prelude.{ℕ, ℤ, pos, negsuc, ◌^◌, Bool, true, false, ◌==◌, nat_lt, not, if◌then◌else◌, List, [], ◌∷◌, length, map}
use Rattle.std.specs.Prelude.{slice_index_or, Option, Some, None, is_none, unwrap_or, Result, Ok, Err}
use Rattle.std.specs.List.{list_any}
use Rattle.hist_model.specs.declared.script.Insn.{Insn}
use Rattle.hist_model.specs.Filters.{insn}
use Rattle.lex_core.specs.declared.line.Token.{Token}
use Rattle.lex_core.specs.declared.line.Token.TheVariants.{Bare, Quoted}
use Rattle.lex_core.specs.declared.reason.Reason.{Reason}
use Rattle.lex_core.specs.declared.reason.Reason.TheVariants.{UnknownWord, OutOfPlace, WrongCount, WrongForm, BadNumber, OutOfRange}
use Rattle.lex_core.specs.Numbers as numbers
use Rattle.bpf_filter.specs.Words.{form_in, instructions, is_script_word}

abbrev pub is_quoted : Token → Bool
is_quoted (Bare bytes) = false
is_quoted (Quoted bytes) = true

-- the number that a bare token is
abbrev pub number : Token → Option ℤ
number (Bare bytes) = numbers.number bytes
number (Quoted bytes) = None

-- the number at a place among operands; 0 behind the last one
abbrev pub number_at : List Token → ℕ → ℤ
number_at operands place = slice_index_or (map (λ operand. unwrap_or (number operand) (pos 0)) operands) place (pos 0)

-- a number from 0 to below a limit
abbrev pub below : ℕ → ℤ → Option ℕ
below limit (pos n) = if nat_lt n limit then Some n else None
below limit (negsuc n) = None

abbrev pub with_fields : ℕ → Option ℕ → Option ℕ → Option ℕ → Result Insn Reason
with_fields code (Some k) (Some jt) (Some jf) = Ok (insn code k jt jf)
with_fields code _ _ _ = Err OutOfRange

-- K, JT and JF, of which those that are missing are 0
abbrev pub insn_of : ℕ → List Token → Result Insn Reason
insn_of code operands =
    with_fields code (below (2 ^ 32) (number_at operands 0)) (below (2 ^ 8) (number_at operands 1)) (below (2 ^ 8) (number_at operands 2))

-- the count of the operands comes first, then their form, then whether they are numbers, then the ranges
abbrev pub operands_insn : ℕ → ℕ → List Token → Result Insn Reason
operands_insn code count operands =
    if not (length operands == count) then Err WrongCount
    else (if list_any is_quoted operands then Err WrongForm
    else (if list_any (λ operand. is_none (number operand)) operands then Err BadNumber
    else insn_of code operands))

abbrev pub word_insn : Option (ℕ × ℕ) → List ℕ → List Token → Result Insn Reason
word_insn (Some form) word operands = operands_insn form.0 form.1 operands
word_insn None word operands = Err (if is_script_word word then OutOfPlace else UnknownWord)

-- what a line's tokens state
abbrev pub insn_text : List Token → Result Insn Reason
insn_text (Bare word ∷ operands) = word_insn (form_in instructions word) word operands
insn_text (Quoted bytes ∷ operands) = Err UnknownWord
insn_text [] = Err UnknownWord
