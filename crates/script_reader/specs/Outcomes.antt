-- What reading a line comes to.
use Rattle.std.specs.Prelude.{◌≡◌, ℕ, List, [], ◌∷◌, Result, Ok, Err, ⊤}
use Rattle.lex_core.specs.Given.{FirstReads}
use Rattle.lex_core.specs.Lexical.{tokens}
use Rattle.lex_core.specs.Lines.{Numbered}
use Rattle.sys_abi.specs.declared.memory.OrNoMemory.{OrNoMemory}
use Rattle.sys_abi.specs.declared.memory.OrNoMemory.TheVariants.{Refused, NoMemory}
use Rattle.script_reader.specs.declared.error.Fault.{Fault}
use Rattle.script_reader.specs.declared.error.ScriptError.{ScriptError}
use Rattle.script_reader.specs.declared.error.ScriptError.TheVariants as refused
use Rattle.script_reader.specs.declared.file.ScriptFile.{ScriptFile}
use Rattle.script_reader.specs.declared.statement.Statement.{Statement}
use Rattle.script_reader.specs.Above.{Above, with_line}
use Rattle.script_reader.specs.Lines.{line_statement}
use Rattle.script_reader.specs.Scripts.{refusal, file_at_end}

-- the answer is what is stated, or why it is refused; nothing is said of want of memory
abbrev pub States : {T E : Type 0} → Result T E → Result T (OrNoMemory E) → Type 0
States reading (Ok s) = reading ≡ Ok s
States reading (Err (Refused error)) = reading ≡ Err error
States reading (Err NoMemory) = ⊤

-- what is stated with one more line, or the line's fault
abbrev pub with_reading : ℕ → Result Statement Fault → Above → Result Above Fault
with_reading n (Ok s) A = Ok (with_line n s A)
with_reading n (Err fault) A = Err fault

-- the lines above state this with the line after them, or the line has this fault
abbrev pub Becomes : {T : Type 0} → Result Above Fault → Result T (OrNoMemory Fault) → Above → Type 0
Becomes outcome (Ok t) new = outcome ≡ Ok new
Becomes outcome (Err (Refused fault)) new = outcome ≡ Err fault
Becomes outcome (Err NoMemory) new = ⊤

-- the first line that is left can't be read; nothing is said of want of memory
abbrev pub FirstRefused : List Numbered → OrNoMemory ScriptError → Type 0
FirstRefused lines (Refused (refused.BadLine n reason)) = FirstReads lines n (Err reason)
FirstRefused lines (Refused (refused.TooLarge n)) = ⊥
FirstRefused lines NoMemory = ⊤

-- the reading ends with the fault of a line with this number; nothing is said of want of memory
abbrev pub EndsWith : ℕ → Result Above Fault → OrNoMemory ScriptError → Type 0
EndsWith n outcome (Refused error) = (fault : Fault) × (outcome ≡ Err fault) × (error ≡ refusal n fault)
EndsWith n outcome NoMemory = ⊤

-- the reading goes on with what is stated now, or ends
abbrev pub GoesOn : {T : Type 0} → ℕ → Result Above Fault → Result T (OrNoMemory ScriptError) → Above → Type 0
GoesOn n outcome (Ok t) new = outcome ≡ Ok new
GoesOn n outcome (Err error) new = EndsWith n outcome error

abbrev pub rest_of : ℕ → Result Above Fault → (Above → Result ScriptFile ScriptError) → Result ScriptFile ScriptError
rest_of n (Ok A) rest = rest A
rest_of n (Err fault) rest = Err (refusal n fault)

-- the lines that are left, after lines that state this
unfoldable pub reading_from : List Numbered → Above → Result ScriptFile ScriptError
reading_from [] A = file_at_end A
reading_from (line ∷ lines) A = rest_of line.number (with_reading line.number (line_statement A (tokens line.bytes)) A) (reading_from lines)
