-- What another broker's workers ask the kernel for, as the lines of a schedule state it: by the words and the operands of `step`.
use Rattle.std.specs.Prelude.{ℕ, Bool, true, false, ◌&&◌, ◌||◌, List, [], ◌∷◌, slice_get, Option, Some, None}
use Rattle.std.specs.Prelude.{is_some, unwrap_or}
use Rattle.std.specs.Prelude.{bytes_eq, codes, Result, Ok, Err}
use Rattle.lex_core.specs.declared.line.Token.{Token}
use Rattle.lex_core.specs.declared.reason.Reason.{Reason}
use Rattle.lex_core.specs.declared.reason.Reason.TheVariants as reason
use Rattle.step_requests.specs.Operands.{line_fault}
use Rattle.step_requests.specs.Requests.{asked, worker_at}
use Rattle.step_requests.specs.Words.{deed_named, form_of, word_of}
use Rattle.step_requests.specs.declared.word.Deed.{Deed}
use Rattle.step_requests.specs.declared.word.Form.{Form}
use Rattle.step_requests.specs.declared.word.Form.TheVariants.{Worker}
use Rattle.script_reader.specs.declared.error.Fault.{Fault}
use Rattle.script_reader.specs.declared.error.Fault.TheVariants.{Wrong}
use Rattle.script_reader.specs.declared.statement.Statement.{Statement}
use Rattle.script_reader.specs.declared.statement.Statement.TheVariants as states

-- ---- which lines are requests

-- the word says what a worker asks for, by itself or with the call after it
abbrev pub asks : List ℕ → Bool
asks word = bytes_eq word (codes "act") || is_some (deed_named word)

abbrev pub is_workers : List Token → Bool
is_workers [] = false
is_workers (first ∷ operands) = bytes_eq (word_of first) (codes "w")

abbrev pub is_asking : Option Token → Bool
is_asking None = false
is_asking (Some does) = asks (word_of does)

abbrev pub asks_at : List Token → ℕ → Bool
asks_at line place = is_asking (slice_get line place)

-- the third token of a worker's line says what the worker asks for
abbrev pub is_request : List Token → Bool
is_request line = is_workers line && asks_at line 2

-- ---- what they ask for

-- which of a worker's requests a line is
abbrev pub deed_in : Result Form Reason → Result Deed Reason
deed_in (Ok (Worker d)) = Ok d
deed_in (Ok form) = Err reason.UnknownWord
deed_in (Err why) = Err why

-- a number that is out of range comes before a word that isn't known
abbrev pub unseated : Reason → Reason
unseated reason.UnknownName = reason.OutOfRange
unseated why = why

-- a worker's number above 15 is out of range, as where steps are counted
abbrev pub with_seat : Bool → Option Reason → Option Reason
with_seat true found = found
with_seat false None = Some reason.OutOfRange
with_seat false (Some why) = Some (unseated why)

abbrev pub is_seated : List Token → Bool
is_seated line = is_some (worker_at line)

-- the fault that the tokens of a request show by themselves
abbrev pub request_fault : Deed → List Token → Option Reason
request_fault d line = with_seat (is_seated line) (line_fault (Worker d) line)

abbrev pub request_stated : Deed → List Token → Statement
request_stated d line = states.Asks (unwrap_or (worker_at line) 0) (asked d line)

abbrev pub unless_wrong : Option Reason → Statement → Result Statement Fault
unless_wrong (Some why) s = Err (Wrong why)
unless_wrong None s = Ok s

abbrev pub deed_statement : Result Deed Reason → List Token → Result Statement Fault
deed_statement (Ok d) line = unless_wrong (request_fault d line) (request_stated d line)
deed_statement (Err why) line = Err (Wrong why)

-- what a request in the schedule states by itself
abbrev pub request_statement : List Token → Result Statement Fault
request_statement line = deed_statement (deed_in (form_of line)) line
