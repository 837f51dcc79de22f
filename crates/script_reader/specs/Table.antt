-- The table of reasons: each test of a line by itself, and which of them decides.
use Rattle.std.specs.Prelude.{◌≡◌, ℕ, ◌+◌, ◌^◌, Bool, true, false, ◌&&◌, ◌||◌, not, if◌then◌else◌, ◌==◌, nat_le, nat_lt, List, [], ◌∷◌}
use Rattle.std.specs.Prelude.{◌++◌, length, Option, Some, None, is_none, is_some, Result, Ok, Err}
use Rattle.std.specs.List.{list_all, list_any}
use Rattle.lex_core.specs.declared.line.Token.{Token}
use Rattle.lex_core.specs.declared.line.Token.TheVariants.{Bare, Quoted}
use Rattle.lex_core.specs.declared.reason.Reason.{Reason}
use Rattle.lex_core.specs.declared.reason.Reason.TheVariants as reason
use Rattle.bpf_filter.specs.Text.{insn_of, is_quoted, number}
use Rattle.bpf_filter.specs.Words.{form_in, instructions}
use Rattle.hist_model.specs.Ranges.{end_of, is_apart, pages_of}
use Rattle.hist_model.specs.declared.script.Insn.{Insn}
use Rattle.step_requests.specs.Operands as request
use Rattle.step_requests.specs.Words.{form_of}
use Rattle.step_requests.specs.declared.word.Deed.{Deed}
use Rattle.step_requests.specs.declared.word.Form.TheVariants.{Worker}
use Rattle.script_reader.specs.declared.error.Fault.{Fault}
use Rattle.script_reader.specs.declared.error.Fault.TheVariants.{Wrong, TooLarge}
use Rattle.script_reader.specs.declared.statement.Statement.{Statement}
use Rattle.script_reader.specs.declared.statement.Statement.TheVariants as states
use Rattle.script_reader.specs.declared.word.Section.{Section}
use Rattle.script_reader.specs.declared.word.Word.{Word}
use Rattle.script_reader.specs.Above.{Above, end_fault}
use Rattle.script_reader.specs.Blocks.{has_listener}
use Rattle.script_reader.specs.Faults.{duplicate, full, too_large_if, wrong_if}
use Rattle.script_reader.specs.Lines.{ends_block, is_in_place, line_statement, other_word, tokens_statement}
use Rattle.script_reader.specs.Operands.{is_counted, operand_at, operand_fault}
use Rattle.script_reader.specs.Paths.{parent_of}
use Rattle.script_reader.specs.Programs.{instr_fault, start_fault}
use Rattle.script_reader.specs.Requests.{deed_in, is_request, is_seated}
use Rattle.script_reader.specs.Schedule.{has_counts, has_requests}
use Rattle.script_reader.specs.Settings.{pidmax_of}
use Rattle.script_reader.specs.Tree.{is_stated, leads_to_directory}
use Rattle.script_reader.specs.Words.{in_filter, in_schedule, word_of}

-- ---- the rows

abbrev pub reason_row : Reason → ℕ
reason_row reason.BadByte = 0
reason_row reason.BadQuote = 1
reason_row reason.UnknownWord = 2
reason_row reason.OutOfPlace = 3
reason_row reason.WrongCount = 4
reason_row reason.WrongForm = 5
reason_row reason.BadNumber = 6
reason_row reason.OutOfRange = 7
reason_row reason.BadPath = 8
reason_row reason.UnknownName = 9
reason_row reason.Duplicate = 10
reason_row reason.Unmapped = 11
reason_row reason.SecondListener = 12
reason_row reason.NoListener = 13
reason_row reason.BadFilter = 14
-- these two are no line's
reason_row reason.NotClosed = 16
reason_row reason.NoProgram = 17

-- the row of the table in which a fault stands
abbrev pub row : Fault → ℕ
row (Wrong reason) = reason_row reason
row TooLarge = 15

-- ---- the tests of a line, in no order

abbrev pub wrong : Option Reason → Option Fault
wrong None = None
wrong (Some reason) = Some (Wrong reason)

-- what is wrong with each of the operands from a place on
abbrev pub operand_faults : Word → List Token → ℕ → List Token → List (Option Fault)
operand_faults w operands place [] = []
operand_faults w operands place (token ∷ more) =
    wrong (operand_fault (operand_at w operands place) token) ∷ operand_faults w operands (place + 1) more

abbrev pub word_faults : Section → Bool → Option Word → List ℕ → List Token → List (Option Fault)
word_faults section base_is_stated (Some w) bytes operands =
    wrong_if (not (is_in_place section base_is_stated w)) reason.OutOfPlace
    ∷ wrong_if (not (is_counted w operands)) reason.WrongCount ∷ operand_faults w operands 0 operands
word_faults section base_is_stated None bytes operands = Some (Wrong (other_word bytes)) ∷ []

abbrev pub plain_faults : Section → Bool → List Token → List (Option Fault)
plain_faults section base_is_stated (Bare bytes ∷ operands) = word_faults section base_is_stated (word_of bytes) bytes operands
plain_faults section base_is_stated (Quoted bytes ∷ operands) = Some (Wrong reason.UnknownWord) ∷ []
plain_faults section base_is_stated [] = Some (Wrong reason.UnknownWord) ∷ []

abbrev pub insn_fault : Result Insn Reason → Option Fault
insn_fault (Ok i) = None
insn_fault (Err reason) = Some (Wrong reason)

abbrev pub form_faults : Option (ℕ × ℕ) → List ℕ → List Token → List (Option Fault)
form_faults (Some form) bytes operands =
    wrong_if (not (length operands == form.1)) reason.WrongCount
    ∷ wrong_if (list_any is_quoted operands) reason.WrongForm
    ∷ wrong_if (list_any (λ operand. is_none (number operand)) operands) reason.BadNumber
    ∷ insn_fault (insn_of form.0 operands) ∷ []
form_faults None bytes operands = Some (Wrong (other_word bytes)) ∷ []

abbrev pub insn_faults : List Token → List (Option Fault)
insn_faults (Bare bytes ∷ operands) = form_faults (form_in instructions bytes) bytes operands
insn_faults (Quoted bytes ∷ operands) = Some (Wrong reason.UnknownWord) ∷ []
insn_faults [] = Some (Wrong reason.UnknownWord) ∷ []

-- what is wrong with each of the tokens of a request from a place on, in a line with so many
abbrev pub token_faults : Deed → ℕ → ℕ → List Token → List (Option Fault)
token_faults d count place [] = []
token_faults d count place (token ∷ more) =
    wrong (request.operand_fault (request.operand_at (Worker d) count place) token) ∷ token_faults d count (place + 1) more

abbrev pub deed_faults : Result Deed Reason → List Token → List (Option Fault)
deed_faults (Err why) line = Some (Wrong why) ∷ []
deed_faults (Ok d) line =
    wrong_if (not (request.is_counted (Worker d) line)) reason.WrongCount
    ∷ wrong_if (not (is_seated line)) reason.OutOfRange ∷ token_faults d (length line) 0 line

-- what a worker's request shows
abbrev pub request_faults : List Token → List (Option Fault)
request_faults line = deed_faults (deed_in (form_of line)) line

-- what a line shows by itself
abbrev pub own_faults : Section → Bool → List Token → List (Option Fault)
own_faults section base_is_stated tokens =
    if in_filter section && not (ends_block tokens) then insn_faults tokens
    else (if in_schedule section && is_request tokens then request_faults tokens
    else plain_faults section base_is_stated tokens)

-- what a statement shows beside the lines above
abbrev pub statement_faults : Statement → Above → List (Option Fault)
statement_faults (states.Pidmax n) A = duplicate (is_some A.settings.pidmax) ∷ []
statement_faults (states.Pidbase n) A =
    wrong_if (nat_lt 4194304 (n + pidmax_of A.settings)) reason.OutOfRange ∷ duplicate (is_some A.settings.pidbase) ∷ []
statement_faults (states.Firstid n) A = duplicate (is_some A.settings.firstid) ∷ []
statement_faults (states.Rlimit n) A = duplicate (is_some A.settings.rlimit) ∷ []
statement_faults states.Killable A = duplicate A.settings.killable ∷ wrong_if (not (has_listener A.filters)) reason.NoListener ∷ []
statement_faults (states.Node path kind) A =
    wrong_if (not (leads_to_directory A.tree (parent_of path)) || is_stated A.tree path) reason.BadPath
    ∷ full 10000 (length A.tree.lines) ∷ []
statement_faults (states.Attr path name value) A =
    wrong_if (not (is_stated A.tree path)) reason.BadPath ∷ full 10000 (length A.tree.lines) ∷ []
statement_faults (states.Root path) A =
    wrong_if (not (leads_to_directory A.tree path)) reason.BadPath ∷ duplicate (is_some A.settings.root) ∷ []
statement_faults (states.Broker n) A = duplicate (list_any (λ m. m == n) A.broker) ∷ full 64 (length A.broker) ∷ []
statement_faults (states.Map range) A =
    wrong_if (nat_lt (2 ^ 47) (end_of range) || not (is_apart A.map range)) reason.OutOfRange
    ∷ too_large_if (nat_lt 64 (pages_of A.map + range.pages)) ∷ []
statement_faults (states.Cgroup memory swap) A = []
statement_faults (states.Figures figures) A = duplicate (is_some A.settings.figures) ∷ []
statement_faults (states.Notify calls) A = wrong_if (has_listener A.filters) reason.SecondListener ∷ full 16 (length A.filters.closed) ∷ []
statement_faults (states.Filter listener) A =
    wrong_if (listener && has_listener A.filters) reason.SecondListener ∷ full 16 (length A.filters.closed) ∷ []
statement_faults (states.Insn i) A = []
statement_faults (states.Prog name) A = duplicate (is_some (A.programs.place name)) ∷ full 4096 (length A.programs.bodies) ∷ []
statement_faults (states.Does i) A = instr_fault A.map i ∷ []
statement_faults (states.Starts thread name) A = start_fault A.programs name ∷ []
statement_faults states.Schedule A = []
statement_faults (states.Steps task count) A = too_large_if (nat_lt 200000 (A.schedule.steps + count)) ∷ []
statement_faults (states.Counts worker count) A =
    wrong_if (has_requests A.schedule worker) reason.OutOfPlace ∷ too_large_if (nat_lt 200000 (A.schedule.steps + count)) ∷ []
statement_faults (states.Asks worker asked) A =
    wrong_if (has_counts A.schedule worker) reason.OutOfPlace ∷ too_large_if (nat_lt 200000 (A.schedule.steps + 1)) ∷ []
statement_faults states.End A = end_fault A.section A ∷ []

-- beside the lines above only what states something is tested
abbrev pub stated_faults : Above → Result Statement Fault → List (Option Fault)
stated_faults A (Ok s) = statement_faults s A
stated_faults A (Err fault) = []

-- what each test says of a line
abbrev pub line_faults : Above → Result (List Token) Reason → List (Option Fault)
line_faults A (Err reason) = Some (Wrong reason) ∷ []
line_faults A (Ok tokens) =
    own_faults A.section (is_some A.settings.pidbase) tokens
    ++ stated_faults A (tokens_statement A.section (is_some A.settings.pidbase) tokens)

-- ---- which test decides

-- the fault stands in this row
abbrev pub stands_at : ℕ → Option Fault → Bool
stands_at n None = false
stands_at n (Some fault) = row fault == n

-- the fault stands in no earlier row
abbrev pub stands_from : ℕ → Option Fault → Bool
stands_from n None = true
stands_from n (Some fault) = nat_le n (row fault)

-- a fault is one that a test shows, where no test shows one of an earlier row; and there is none only where no test shows one
abbrev pub is_first : Option Fault → List (Option Fault) → Bool
is_first None faults = list_all is_none faults
is_first (Some fault) faults = list_any (stands_at (row fault)) faults && list_all (stands_from (row fault)) faults

abbrev pub refusal_of : Result Statement Fault → Option Fault
refusal_of (Ok s) = None
refusal_of (Err fault) = Some fault

-- the refusal of a line is the first row of the table whose test shows a fault
abbrev pub FirstRowDecides : Above → Result (List Token) Reason → Type 0
FirstRowDecides A line = is_first (refusal_of (line_statement A line)) (line_faults A line) ≡ true
