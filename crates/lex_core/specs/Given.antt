-- What the reader of lines gives.
use Rattle.std.specs.Prelude.{◌≡◌, ℕ, List, [], ◌∷◌, Option, Some, None, Result, Ok, Err, ⊤}
use Rattle.lex_core.specs.declared.line.Line.{Line}
use Rattle.lex_core.specs.declared.line.Token.{Token}
use Rattle.lex_core.specs.declared.reason.Reason.{Reason}
use Rattle.lex_core.specs.declared.reason.LexError.{LexError}
use Rattle.lex_core.specs.Lexical.{tokens}
use Rattle.lex_core.specs.Lines.{Numbered}
use Rattle.sys_abi.specs.declared.memory.OrNoMemory.{OrNoMemory}
use Rattle.sys_abi.specs.declared.memory.OrNoMemory.TheVariants.{Refused, NoMemory}

-- the first line that is left has this number, and its bytes come to this
abbrev pub FirstReads : List Numbered → ℕ → Result (List Token) Reason → Type 0
FirstReads [] number reading = ⊥
FirstReads (line ∷ lines) number reading = (line.number ≡ number) × (tokens line.bytes ≡ reading)

abbrev pub rest_lines : List Numbered → List Numbered
rest_lines [] = []
rest_lines (line ∷ lines) = lines

-- the first line that is left is given, or there is none; the others are left
abbrev pub GivesFirst : List Numbered → Option Line → List Numbered → Type 0
GivesFirst old None new = (old ≡ []) × (new ≡ [])
GivesFirst old (Some line) new = FirstReads old line.number (Ok line.tokens) × (new ≡ rest_lines old)

-- the first line that is left has this fault; nothing is said of want of memory
abbrev pub RefusesFirst : List Numbered → OrNoMemory LexError → Type 0
RefusesFirst old (Refused error) = FirstReads old error.line (Err error.reason)
RefusesFirst old NoMemory = ⊤

-- the refusal of a line with this number
abbrev pub refused_at : ℕ → OrNoMemory Reason → OrNoMemory LexError
refused_at number (Refused reason) = Refused (record { line = number; reason = reason })
refused_at number NoMemory = NoMemory
