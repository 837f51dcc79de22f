-- The calls that a file states, or why it is refused.
use Rattle.std.specs.Prelude.{ℕ, List, [], ◌∷◌, ◌++◌, Result, Ok, Err, ⊤}
use Rattle.lex_core.specs.Given.{FirstReads}
use Rattle.lex_core.specs.Lexical.{tokens}
use Rattle.lex_core.specs.Lines.{Numbered, lines_after}
use Rattle.lex_core.specs.declared.line.Token.{Token}
use Rattle.lex_core.specs.declared.reason.Reason.{Reason}
use Rattle.sys_abi.specs.declared.memory.OrNoMemory.{OrNoMemory}
use Rattle.sys_abi.specs.declared.memory.OrNoMemory.TheVariants.{Refused, NoMemory}
use Rattle.hist_model.specs.declared.request.Request.{Request}
use Rattle.call_lines.specs.declared.calls.Call.{Call}
use Rattle.call_lines.specs.declared.error.CallsError.{CallsError}
use Rattle.call_lines.specs.Readings.{Reading, and_then}
use Rattle.call_lines.specs.Requests.{request}

-- the request of a line
abbrev pub line_request : Result (List Token) Reason → Reading Request
line_request tokens = and_then tokens request

-- the call of the line with this number
abbrev pub line_call : ℕ → Reading Request → Result Call CallsError
line_call n (Ok q) = Ok (record { line = n; request = q })
line_call n (Err reason) = Err (record { line = n; reason = reason })

-- a call joins those above it
abbrev pub after_call : List Call → Result Call CallsError → (List Call → Result (List Call) CallsError) → Result (List Call) CallsError
after_call above (Ok call) next = next (above ++ call ∷ [])
after_call above (Err error) next = Err error

-- the lines that are left, behind these calls: the first line without a call decides
unfoldable pub calls_behind : List Call → List Numbered → Result (List Call) CallsError
calls_behind above [] = Ok above
calls_behind above (line ∷ lines) =
    after_call above (line_call line.number (line_request (tokens line.bytes))) (λ all. calls_behind all lines)

-- the calls that the bytes of a file state, one a line, or the first line that is refused
abbrev pub calls : List ℕ → Result (List Call) CallsError
calls bytes = calls_behind [] (lines_after 0 bytes)

-- the first line that is left can't be read; nothing is said of want of memory
abbrev pub FirstRefused : List Numbered → OrNoMemory CallsError → Type 0
FirstRefused lines (Refused error) = FirstReads lines error.line (Err error.reason)
FirstRefused lines NoMemory = ⊤
