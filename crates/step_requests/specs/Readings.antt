-- What the bytes of a line ask for, or its first fault.
use Rattle.std.specs.Prelude.{◌≡◌, ℕ, ◌<◌, List, [], ◌∷◌, Option, Some, None, Result, Ok, Err, ⊤}
use Rattle.lex_core.specs.declared.line.Token.{Token}
use Rattle.lex_core.specs.declared.reason.LexError.{LexError}
use Rattle.lex_core.specs.declared.reason.Reason.{Reason}
use Rattle.lex_core.specs.Lexical.{tokens}
use Rattle.lex_core.specs.Lines.{Numbered, lines_after}
use Rattle.sys_abi.specs.declared.memory.OrNoMemory.{OrNoMemory}
use Rattle.sys_abi.specs.declared.memory.OrNoMemory.TheVariants.{Refused, NoMemory}
use Rattle.step_requests.specs.declared.fault.LineFault.{LineFault}
use Rattle.step_requests.specs.declared.fault.LineFault.TheVariants as fault
use Rattle.step_requests.specs.declared.request.StepRequest.{StepRequest}
use Rattle.step_requests.specs.declared.request.StepRequest.TheVariants as step
use Rattle.step_requests.specs.declared.word.Form.{Form}
use Rattle.step_requests.specs.Operands.{line_fault}
use Rattle.step_requests.specs.Requests.{request}
use Rattle.step_requests.specs.Words.{form_of}

abbrev pub unless_faulty : Option Reason → Form → List Token → Result StepRequest LineFault
unless_faulty (Some why) f line = Err (fault.Reason why)
unless_faulty None f line = request f line

-- a line whose words say that it is this request
abbrev pub read_as : Result Form Reason → List Token → Result StepRequest LineFault
read_as (Err why) line = Err (fault.Reason why)
read_as (Ok f) line = unless_faulty (line_fault f line) f line

-- what a line with these tokens asks for
abbrev pub read : List Token → Result StepRequest LineFault
read line = read_as (form_of line) line

abbrev pub read_tokens : Result (List Token) Reason → Result StepRequest LineFault
read_tokens (Ok line) = read line
read_tokens (Err why) = Err (fault.Reason why)

-- the first line that has tokens counts
abbrev pub first_read : List Numbered → Result StepRequest LineFault
first_read [] = Err fault.Empty
first_read (line ∷ lines) = read_tokens (tokens line.bytes)

-- what the bytes of a line ask for
abbrev pub reads : List ℕ → Result StepRequest LineFault
reads bytes = first_read (lines_after 0 bytes)

-- a worker's number is one of 0 to 15
abbrev pub HasSeat : StepRequest → Type 0
HasSeat (step.Worker number what) = number < 16
HasSeat _ = ⊤

-- ---- how refusals are passed on

abbrev pub refused : Reason → OrNoMemory LineFault
refused why = Refused (fault.Reason why)

abbrev pub unread : OrNoMemory LexError → OrNoMemory LineFault
unread (Refused error) = refused error.reason
unread NoMemory = NoMemory

-- a refusal is what reading comes to; nothing is said of want of memory
abbrev pub Refuses : {T : Type 0} → OrNoMemory LineFault → Result T LineFault → Type 0
Refuses (Refused why) reading = reading ≡ Err why
Refuses NoMemory reading = ⊤
