-- What a caller's buffers and numbers have after a call.
use Rattle.std.specs.Prelude.{◌≡◌, ℕ, ◌++◌, List, length, take, drop, nat_lt, if◌then◌else◌}
use Rattle.program_files.specs.Codes.{code_of}
use Rattle.broker_app.specs.Lines.{line_of}
use Rattle.program_files.specs.declared.status.Status.{Status}
use Rattle.program_files.specs.declared.status.Status.TheVariants.{Done, Otherwise}

-- the number that says that what was printed whole doesn't fit into its buffer
abbrev pub short_buffer : ℕ
short_buffer = 100

-- the number of a status, with a report of so many bytes and a buffer of so many: the program's, but where what was printed whole
-- doesn't fit
abbrev pub number_of : Status → ℕ → ℕ → ℕ
number_of Done report buffer = if nat_lt buffer report then short_buffer else 0
number_of Otherwise report buffer = if nat_lt buffer report then short_buffer else 11
number_of status report buffer = code_of status

-- the buffer begins with the text, as far as it fits, and is else as it was; the length is the whole text's
pub record Holds (text old new : List ℕ) (told : ℕ) : Type 0 where
  pub bytes : new ≡ take (length old) text ++ drop (length text) old
  pub whole : told ≡ length text

-- what C was told: a status and what was printed, such as the call gives them; the buffers hold what was printed and the status's line
pub record Tells (gives : List ℕ → Status → Type 0) (number : ℕ) (out_old out_new : List ℕ)
    (out_length : ℕ) (line_old line_new : List ℕ) (line_length : ℕ) : Type 0 where
  pub status : Status
  pub printed : List ℕ
  pub given : gives printed status
  pub number_is : number ≡ number_of status (length printed) (length out_old)
  pub out : Holds printed out_old out_new out_length
  pub line : Holds (line_of status) line_old line_new line_length
