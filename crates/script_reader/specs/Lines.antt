-- What a line states beside the lines above it, or its fault.
use Rattle.std.specs.Prelude.{ℕ, Bool, true, false, ◌&&◌, not, if◌then◌else◌, List, [], ◌∷◌, Option, Some, None, is_some, Result, Ok, Err}
use Rattle.lex_core.specs.declared.line.Token.{Token}
use Rattle.lex_core.specs.declared.line.Token.TheVariants.{Bare, Quoted}
use Rattle.lex_core.specs.declared.reason.Reason.{Reason}
use Rattle.lex_core.specs.declared.reason.Reason.TheVariants as reason
use Rattle.bpf_filter.specs.Text.{insn_text}
use Rattle.bpf_filter.specs.Words.{is_script_word}
use Rattle.hist_model.specs.declared.script.Insn.{Insn}
use Rattle.script_reader.specs.declared.error.Fault.{Fault}
use Rattle.script_reader.specs.declared.error.Fault.TheVariants.{Wrong}
use Rattle.script_reader.specs.declared.statement.Statement.{Statement}
use Rattle.script_reader.specs.declared.statement.Statement.TheVariants as states
use Rattle.script_reader.specs.declared.word.Section.{Section}
use Rattle.script_reader.specs.declared.word.Word.{Word}
use Rattle.script_reader.specs.declared.word.Word.TheVariants as word
use Rattle.script_reader.specs.Above.{Above, statement_fault}
use Rattle.script_reader.specs.Operands.{operands_fault}
use Rattle.script_reader.specs.Requests.{is_request, request_statement}
use Rattle.script_reader.specs.Statements.{statement}
use Rattle.script_reader.specs.Words.{belongs, word_of, in_filter, in_schedule}

-- a `pidmax` after a `pidbase` is out of place, as is a word that belongs to another section
abbrev pub comes_late : Bool → Word → Bool
comes_late base_is_stated word.Pidmax = base_is_stated
comes_late base_is_stated _ = false

abbrev pub is_in_place : Section → Bool → Word → Bool
is_in_place section base_is_stated w = belongs w section && not (comes_late base_is_stated w)

abbrev pub operands_statement : Option Reason → Word → List Token → Result Statement Fault
operands_statement (Some reason) w operands = Err (Wrong reason)
operands_statement None w operands = Ok (statement w operands)

-- what a line with this word states by itself, where it may stand
abbrev pub word_statement : Section → Bool → Word → List Token → Result Statement Fault
word_statement section base_is_stated w operands =
    if is_in_place section base_is_stated w then operands_statement (operands_fault w operands) w operands
    else Err (Wrong reason.OutOfPlace)

-- a word of another kind is that of a filter's instruction, or none
abbrev pub other_word : List ℕ → Reason
other_word bytes = if is_script_word bytes then reason.OutOfPlace else reason.UnknownWord

abbrev pub bytes_statement : Section → Bool → Option Word → List ℕ → List Token → Result Statement Fault
bytes_statement section base_is_stated (Some w) bytes operands = word_statement section base_is_stated w operands
bytes_statement section base_is_stated None bytes operands = Err (Wrong (other_word bytes))

abbrev pub insn_statement : Result Insn Reason → Result Statement Fault
insn_statement (Ok i) = Ok (states.Insn i)
insn_statement (Err reason) = Err (Wrong reason)

abbrev pub is_end : Option Word → Bool
is_end (Some word.End) = true
is_end _ = false

-- the line ends a block, or so it says
abbrev pub ends_block : List Token → Bool
ends_block (Bare bytes ∷ operands) = is_end (word_of bytes)
ends_block _ = false

abbrev pub plain_statement : Section → Bool → List Token → Result Statement Fault
plain_statement section base_is_stated (Bare bytes ∷ operands) = bytes_statement section base_is_stated (word_of bytes) bytes operands
plain_statement section base_is_stated (Quoted bytes ∷ operands) = Err (Wrong reason.UnknownWord)
plain_statement section base_is_stated [] = Err (Wrong reason.UnknownWord)

-- in the block of a filter every line but its end is an instruction of bpf(4), and in the schedule a worker may ask for something
abbrev pub tokens_statement : Section → Bool → List Token → Result Statement Fault
tokens_statement section base_is_stated tokens =
    if in_filter section && not (ends_block tokens) then insn_statement (insn_text tokens)
    else (if in_schedule section && is_request tokens then request_statement tokens else plain_statement section base_is_stated tokens)

abbrev pub unless_faulty : Option Fault → Statement → Result Statement Fault
unless_faulty None s = Ok s
unless_faulty (Some fault) s = Err fault

-- the faults beside the lines above come after those that the line shows by itself
abbrev pub beside : Above → Result Statement Fault → Result Statement Fault
beside A (Ok s) = unless_faulty (statement_fault s A) s
beside A (Err fault) = Err fault

-- what a line states beside the lines above it, or its fault
abbrev pub line_statement : Above → Result (List Token) Reason → Result Statement Fault
line_statement A (Ok tokens) = beside A (tokens_statement A.section (is_some A.settings.pidbase) tokens)
line_statement A (Err reason) = Err (Wrong reason)
