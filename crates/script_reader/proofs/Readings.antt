-- Reading lines one by one comes to what the definitions say of all of them: by induction on the lines that are left.
-- By the definitions of `reading` and `reading_from` at the first line, and by cases on its statement or fault.
use Rattle.std.proofs.Common.{◌≡◌, ℕ, List, [], ◌∷◌, Result, Ok, Err, refl, ap, sym, ◌∙◌}
use Rattle.lex_core.specs.Given.{FirstReads, rest_lines}
use Rattle.lex_core.specs.Lexical.{tokens}
use Rattle.lex_core.specs.Lines.{Numbered, lines_after}
use Rattle.lex_core.specs.declared.line.Token.{Token}
use Rattle.lex_core.specs.declared.reason.Reason.{Reason}
use Rattle.sys_abi.specs.declared.memory.OrNoMemory.{OrNoMemory}
use Rattle.sys_abi.specs.declared.memory.OrNoMemory.TheVariants.{Refused, NoMemory}
use Rattle.script_reader.specs.Above.{Above, Stated, above, with_line, nothing_above}
use Rattle.script_reader.specs.Lines.{line_statement}
use Rattle.script_reader.specs.Outcomes.{EndsWith, States, reading_from, rest_of, with_reading}
use Rattle.script_reader.specs.Scripts.{reading, script, script_file, script_in, file_at_end, after_line, refusal}
use Rattle.script_reader.specs.declared.error.Fault.{Fault}
use Rattle.script_reader.specs.declared.error.ScriptError.{ScriptError}
use Rattle.script_reader.specs.declared.error.ScriptError.TheVariants.{BadLine}
use Rattle.script_reader.specs.declared.file.ScriptFile.{ScriptFile}
use Rattle.script_reader.specs.declared.statement.Statement.{Statement}

above-more : (n : ℕ) (s : Statement) (older : List Stated) → above (record { line = n; what = s } ∷ older) ≡ with_line n s (above older)
unfolding above
above-more n s older = refl

-- one line, where the lines after it are read alike
reading-line : (n : ℕ) (outcome : Result Statement Fault) (older : List Stated) (one : List Stated → Result ScriptFile ScriptError) (other : Above → Result ScriptFile ScriptError)
    → ((all : List Stated) → one all ≡ other (above all)) → after_line n outcome older one ≡ rest_of n (with_reading n outcome (above older)) other
reading-line n (Ok s) older one other same = same (record { line = n; what = s } ∷ older) ∙ ap other (above-more n s older)
reading-line n (Err fault) older one other same = refl

reading-same : (lines : List Numbered) (older : List Stated) → reading lines older ≡ reading_from lines (above older)
unfolding reading reading_from
reading-same [] older = refl
reading-same (line ∷ lines) older =
    reading-line line.number (line_statement (above older) (tokens line.bytes)) older (reading lines) (reading_from lines) (reading-same lines)

above-none : above [] ≡ nothing_above
unfolding above
above-none = refl

-- a file is read from its first line on, with nothing above
pub file_read : (bytes : List ℕ) → script_file bytes ≡ reading_from (lines_after 0 bytes) nothing_above
file_read bytes = reading-same (lines_after 0 bytes) [] ∙ ap (reading_from (lines_after 0 bytes)) above-none

reading-end : (A : Above) → reading_from [] A ≡ file_at_end A
unfolding reading_from
reading-end A = refl

reading-more : (line : Numbered) (lines : List Numbered) (A : Above)
    → reading_from (line ∷ lines) A ≡ rest_of line.number (with_reading line.number (line_statement A (tokens line.bytes)) A) (reading_from lines)
unfolding reading_from
reading-more line lines A = refl

-- no line is left
pub read_all : (old : List Numbered) (A : Above) → old ≡ [] → reading_from old A ≡ file_at_end A
read_all old A e = ap (λ lines. reading_from lines A) e ∙ reading-end A

-- what a line with these tokens does
reading-first : (old : List Numbered) (n : ℕ) (reading : Result (List Token) Reason) (A : Above) → FirstReads old n reading
    → reading_from old A ≡ rest_of n (with_reading n (line_statement A reading) A) (reading_from (rest_lines old))
reading-first [] n reading A h = absurd h
reading-first (line ∷ lines) n reading A h =
    reading-more line lines A
    ∙ (ap (λ k. rest_of k (with_reading k (line_statement A (tokens line.bytes)) A) (reading_from lines)) h.0
    ∙ ap (λ r. rest_of n (with_reading n (line_statement A r) A) (reading_from lines)) h.1)

-- the first line joins those above
pub read_more : (old new : List Numbered) (n : ℕ) (ts : List Token) (A B : Above) → FirstReads old n (Ok ts) → new ≡ rest_lines old
    → with_reading n (line_statement A (Ok ts)) A ≡ Ok B → reading_from new B ≡ reading_from old A
read_more old new n ts A B h e o =
    sym (reading-first old n (Ok ts) A h ∙ (ap (λ r. rest_of n r (reading_from (rest_lines old))) o ∙ ap (λ lines. reading_from lines B) (sym e)))

-- the first line has a fault
pub read_faulty : (old : List Numbered) (n : ℕ) (ts : List Token) (A : Above) (fault : Fault) (error : ScriptError) → FirstReads old n (Ok ts)
    → with_reading n (line_statement A (Ok ts)) A ≡ Err fault → error ≡ refusal n fault → reading_from old A ≡ Err error
read_faulty old n ts A fault error h o e =
    reading-first old n (Ok ts) A h ∙ (ap (λ r. rest_of n r (reading_from (rest_lines old))) o ∙ ap Err (sym e))

-- the first line can't be read
pub read_unread : (old : List Numbered) (n : ℕ) (reason : Reason) (A : Above) → FirstReads old n (Err reason) → reading_from old A ≡ Err (BadLine n reason)
read_unread old n reason A h = reading-first old n (Err reason) A h

-- a script whose first faulty line is the first that is left
pub read_refused : (bytes : List ℕ) (old : List Numbered) (n : ℕ) (ts : List Token) (A : Above) (error : OrNoMemory ScriptError)
    → reading_from old A ≡ reading_from (lines_after 0 bytes) nothing_above → FirstReads old n (Ok ts)
    → EndsWith n (with_reading n (line_statement A (Ok ts)) A) error → States (script_file bytes) (Err error)
read_refused bytes old n ts A (Refused error) so h g =
    file_read bytes ∙ (sym so ∙ read_faulty old n ts A g.0 error h g.1 g.2)
read_refused bytes old n ts A NoMemory so h g = tt

-- ---- the script alone

pub script_alone : (bytes : List ℕ) (file : ScriptFile) → script_file bytes ≡ Ok file → script bytes ≡ Ok file.script
script_alone bytes file h = ap script_in h

pub script_refused : (bytes : List ℕ) (error : OrNoMemory ScriptError) → States (script_file bytes) (Err error) → States (script bytes) (Err error)
script_refused bytes (Refused error) h = ap script_in h
script_refused bytes NoMemory h = tt
