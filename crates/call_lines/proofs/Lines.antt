-- Reading lines one by one comes to what the definitions say of all of them.
-- By the definition of `calls_behind` at the first line that is left.
use Rattle.std.proofs.Common.{◌≡◌, ℕ, List, [], ◌∷◌, ◌++◌, ◌<◌, length, Result, Ok, Err, refl, ap, sym, ◌∙◌, arith}
use Rattle.lex_core.specs.Given.{FirstReads, rest_lines}
use Rattle.lex_core.specs.Lexical.{tokens}
use Rattle.lex_core.specs.Lines.{Numbered}
use Rattle.lex_core.specs.declared.line.Token.{Token}
use Rattle.lex_core.specs.declared.reason.Reason.{Reason}
use Rattle.sys_abi.specs.declared.memory.OrNoMemory.{OrNoMemory}
use Rattle.sys_abi.specs.declared.memory.OrNoMemory.TheVariants.{Refused, NoMemory}
use Rattle.call_lines.specs.Calls.{after_call, calls, calls_behind, line_call, line_request}
use Rattle.call_lines.specs.Readings.{Gives}
use Rattle.call_lines.specs.declared.calls.Call.{Call}
use Rattle.call_lines.specs.declared.error.CallsError.{CallsError}

behind_none : (above : List Call) → calls_behind above [] ≡ Ok above
unfolding calls_behind
behind_none above = refl

-- no line is left
pub read_all : (above : List Call) (old : List Numbered) → old ≡ [] → calls_behind above old ≡ Ok above
read_all above old e = ap (calls_behind above) e ∙ behind_none above

-- what the first line does
first_read : (above : List Call) (old : List Numbered) (n : ℕ) (reading : Result (List Token) Reason) → FirstReads old n reading
    → calls_behind above old ≡ after_call above (line_call n (line_request reading)) (λ all. calls_behind all (rest_lines old))
unfolding calls_behind
first_read above [] n reading h = absurd h
first_read above (line ∷ lines) n reading h =
    ap (λ k. after_call above (line_call k (line_request (tokens line.bytes))) (λ all. calls_behind all lines)) h.0
    ∙ ap (λ r. after_call above (line_call n (line_request r)) (λ all. calls_behind all lines)) h.1

-- the first line's call joins those above
pub read_more : (above : List Call) (old new : List Numbered) (n : ℕ) (ts : List Token) (call : Call) → FirstReads old n (Ok ts) → new ≡ rest_lines old
    → line_call n (line_request (Ok ts)) ≡ Ok call → calls_behind (above ++ call ∷ []) new ≡ calls_behind above old
read_more above old new n ts call h e o =
    sym (first_read above old n (Ok ts) h
    ∙ (ap (λ r. after_call above r (λ all. calls_behind all (rest_lines old))) o ∙ ap (calls_behind (above ++ call ∷ [])) (sym e)))

-- the first line has no call
pub read_refused : (above : List Call) (old : List Numbered) (n : ℕ) (ts : List Token) (error : CallsError) → FirstReads old n (Ok ts)
    → line_call n (line_request (Ok ts)) ≡ Err error → calls_behind above old ≡ Err error
read_refused above old n ts error h o =
    first_read above old n (Ok ts) h ∙ ap (λ r. after_call above r (λ all. calls_behind all (rest_lines old))) o

-- the first line can't be read
pub read_unread : (above : List Call) (old : List Numbered) (error : CallsError) → FirstReads old error.line (Err error.reason) → calls_behind above old ≡ Err error
read_unread above old error h = first_read above old error.line (Err error.reason) h

-- the reading ends with the first line
pub ends_there : (bytes : List ℕ) (above : List Call) (old : List Numbered) (n : ℕ) (ts : List Token) (error : OrNoMemory CallsError)
    → calls_behind above old ≡ calls bytes → FirstReads old n (Ok ts) → Gives {A = Call} (Err error) (line_call n (line_request (Ok ts)))
    → Gives {A = List Call} (Err error) (calls bytes)
ends_there bytes above old n ts (Refused error) so h e = sym so ∙ read_refused above old n ts error h e
ends_there bytes above old n ts NoMemory so h e = tt

-- fewer lines are left behind the first one
pub rest_shorter : (old new : List Numbered) (n : ℕ) (reading : Result (List Token) Reason) → FirstReads old n reading → new ≡ rest_lines old → length new < length old
rest_shorter [] new n reading h e = absurd h
rest_shorter (line ∷ lines) new n reading h e = let q = ap length e in omega arith
