-- The lines of the requests, and the answers to them, each after the history that those before it left. A history has its newest
-- event first.
use Rattle.std.specs.Prelude.{◌≡◌, ℕ, ◌+◌, ◌<◌, Bool, false, nat_lt, if◌then◌else◌, List, [], ◌∷◌, ◌++◌, length, take, drop, codes}
use Rattle.std.specs.Prelude.{Result, Ok, Err}
use Rattle.std.specs.List.{list_any}
use Rattle.hist_model.specs.Legal.{started}
use Rattle.hist_model.specs.declared.event.Event.{Event}
use Rattle.step_session.specs.declared.origin.Origin.{Origin}
use Rattle.hist_model.specs.declared.script.Script.{Script}
use Rattle.lex_core.specs.Lines.{split}
use Rattle.step_session.specs.Answers.{answered}
use Rattle.step_session.specs.Texts.{faulty_text}
use Rattle.step_requests.specs.Laws.{is_line_end}
use Rattle.step_requests.specs.Readings.{reads}
use Rattle.step_requests.specs.declared.fault.LineFault.{LineFault}
use Rattle.step_requests.specs.declared.request.StepRequest.{StepRequest}

-- ---- lines

-- the lines of the input: a byte 10 ends each of them, but the last one may end with the input
abbrev pub request_lines : List ℕ → List (List ℕ)
request_lines bytes = split bytes

-- whether a line ends among these bytes
abbrev pub has_end : List ℕ → Bool
has_end bytes = list_any is_line_end bytes

-- the first line ends at this place
pub record EndsAt (bytes : List ℕ) (place : ℕ) : Type 0 where
  pub within : place < length bytes
  pub line : has_end (take place bytes) ≡ false
  pub cut : bytes ≡ take place bytes ++ 10 ∷ drop (place + 1) bytes

-- a line that ends among these bytes, and what stands behind its end
pub record IsCut (bytes line behind : List ℕ) : Type 0 where
  pub line_only : has_end line ≡ false
  pub cut : bytes ≡ line ++ 10 ∷ behind

-- ---- the answer to a line

-- how many bytes a line has at most
abbrev pub longest : ℕ
longest = 65536

abbrev pub long_text : List ℕ
long_text = codes "refused long line\n"

abbrev pub read_answer : Origin → Script → List Event → Result StepRequest LineFault → List Event × List ℕ
read_answer P S K (Ok r) = answered P S K r
read_answer P S K (Err why) = (K, faulty_text why)

-- the history after a line, and the answer to it
unfoldable pub line_answer : Origin → Script → List Event → List ℕ → List Event × List ℕ
line_answer P S K line = if nat_lt longest (length line) then (K, long_text) else read_answer P S K (reads line)

-- ---- the answers to all lines

-- the history after lines
unfoldable pub history_after : Origin → Script → List Event → List (List ℕ) → List Event
history_after P S K [] = K
history_after P S K (line ∷ lines) = history_after P S (line_answer P S K line).0 lines

-- the answers to lines
unfoldable pub answers : Origin → Script → List Event → List (List ℕ) → List ℕ
answers P S K [] = []
answers P S K (line ∷ lines) = (line_answer P S K line).1 ++ answers P S (line_answer P S K line).0 lines

-- the answers to the lines of the input, where the container was started just before
abbrev pub all_answers : Origin → Script → List ℕ → List ℕ
all_answers P S bytes = answers P S (started S) (request_lines bytes)
