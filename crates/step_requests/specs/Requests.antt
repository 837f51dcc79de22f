-- What a line without a fault asks for. Its values have the places of their tokens in the line, counted from 0.
use Rattle.std.specs.Prelude.{ℕ, ◌+◌, ◌^◌, Bool, ◌||◌, ◌==◌, nat_le, if◌then◌else◌, List, [], length, slice_get, replicate, Option}
use Rattle.std.specs.Prelude.{Some, None, bytes_eq, codes}
use Rattle.std.specs.Prelude.{◌-◌, unwrap_or, ℤ, pos, neg_ℤ, Result, Ok, Err}
use Rattle.hex.specs.Hex.{decode_sized}
use Rattle.hex.specs.declared.error.FromHexError.{FromHexError}
use Rattle.hist_model.specs.Requests.{low_16, low_32}
use Rattle.hist_model.specs.declared.request.Request.{Request}
use Rattle.hist_model.specs.declared.request.Request.TheVariants as call
use Rattle.lex_core.specs.declared.line.Token.{Token}
use Rattle.lex_core.specs.declared.line.Token.TheVariants.{Bare, Quoted}
use Rattle.lex_core.specs.Numbers as numbers
use Rattle.sys_abi.specs.Wire.{resp_bytes, addfd_bytes}
use Rattle.sys_abi.specs.declared.wire.Resp.{Resp}
use Rattle.sys_abi.specs.declared.wire.Addfd.{Addfd}
use Rattle.step_requests.specs.declared.fault.LineFault.{LineFault}
use Rattle.step_requests.specs.declared.fault.LineFault.TheVariants as fault
use Rattle.step_requests.specs.declared.request.Asked.{Asked}
use Rattle.step_requests.specs.declared.request.Asked.TheVariants as asks
use Rattle.step_requests.specs.declared.request.Look.{Look}
use Rattle.step_requests.specs.declared.request.Look.TheVariants as looks
use Rattle.step_requests.specs.declared.request.StepRequest.{StepRequest}
use Rattle.step_requests.specs.declared.request.StepRequest.TheVariants as step
use Rattle.step_requests.specs.declared.word.Form.{Form}
use Rattle.step_requests.specs.declared.word.Form.TheVariants as form
use Rattle.step_requests.specs.declared.word.Deed.{Deed}
use Rattle.step_requests.specs.declared.word.Deed.TheVariants as deed
use Rattle.step_requests.specs.declared.word.LookAt.{LookAt}
use Rattle.step_requests.specs.declared.word.LookAt.TheVariants as at
use Rattle.step_requests.specs.Names.{task_numbers}
use Rattle.step_requests.specs.Numbers.{below, between}

-- ---- the values of operands

abbrev pub token_bytes : Token → List ℕ
token_bytes (Bare word) = word
token_bytes (Quoted bytes) = bytes

abbrev pub bytes_or_none : Option Token → List ℕ
bytes_or_none None = []
bytes_or_none (Some token) = token_bytes token

-- the bytes of the token at a place; none behind the last one
abbrev pub bytes_at : List Token → ℕ → List ℕ
bytes_at line place = bytes_or_none (slice_get line place)

-- the number that is written at a place, and 0 where there is none
abbrev pub number_at : List Token → ℕ → ℤ
number_at line place = unwrap_or (numbers.number (bytes_at line place)) (pos 0)

-- the number below a limit at a place, and 0 where there is none
abbrev pub limited_at : ℕ → List Token → ℕ → ℕ
limited_at limit line place = unwrap_or (below limit (number_at line place)) 0

-- the number between two others at a place, and 0 where there is none
abbrev pub signed_at : ℤ → ℤ → List Token → ℕ → ℤ
signed_at least most line place = unwrap_or (between least most (number_at line place)) (pos 0)

abbrev pub half_at : List Token → ℕ → ℕ
half_at line place = limited_at (2 ^ 16) line place

abbrev pub word_at : List Token → ℕ → ℕ
word_at line place = limited_at (2 ^ 32) line place

abbrev pub wide_at : List Token → ℕ → ℕ
wide_at line place = limited_at (2 ^ 64) line place

abbrev pub signed_word_at : List Token → ℕ → ℤ
signed_word_at line place = signed_at (neg_ℤ (pos (2 ^ 31))) (pos (2 ^ 31 - 1)) line place

abbrev pub signed_wide_at : List Token → ℕ → ℤ
signed_wide_at line place = signed_at (neg_ℤ (pos (2 ^ 63))) (pos (2 ^ 63 - 1)) line place

abbrev pub or_zeros : ℕ → Result (List ℕ) FromHexError → List ℕ
or_zeros size (Ok bytes) = bytes
or_zeros size (Err e) = replicate size 0

-- the bytes of a structure of this size that are written in hex at a place; zeros where there are none
abbrev pub structure_at : ℕ → List Token → ℕ → List ℕ
structure_at size line place = or_zeros size (decode_sized (bytes_at line place) size)

-- ---- the calls that a worker makes

-- a node; of the mode the low 16 bits are kept, as of a call's argument
abbrev pub node_at : List Token → Option ℤ → ℕ → Request
node_at line dirfd place = call.Mknod dirfd (bytes_at line place) (low_16 (word_at line (place + 1))) (wide_at line (place + 2))

-- the program behind `via`, the eleventh token
abbrev pub program_of : List Token → List ℕ
program_of line = if nat_le 11 (length line) then bytes_at line 10 else []

-- the last word is `shift`: alone behind the data, or behind a program
abbrev pub has_shift : List Token → Bool
has_shift line = (length line == 10) || (length line == 12)

abbrev pub mount_of : List Token → Request
mount_of line =
    call.Mount (bytes_at line 4) (bytes_at line 5) (bytes_at line 6) (bytes_at line 8) (program_of line) (wide_at line 7) (has_shift line)

-- of the flags the low 32 bits are kept, as of a call's argument
abbrev pub setxattr_of : List Token → Request
setxattr_of line = call.SetXattr (bytes_at line 4) (bytes_at line 5) (bytes_at line 6) (low_32 (wide_at line 7))

-- ---- the structures of which a line states the fields

abbrev pub resp_at : List Token → Resp
resp_at line = record { id = wide_at line 3; val = signed_wide_at line 4; error = signed_word_at line 5; flags = word_at line 6 }

abbrev pub addfd_at : List Token → Addfd
addfd_at line = record {
  id = wide_at line 3;
  flags = word_at line 4;
  srcfd = word_at line 5;
  newfd = word_at line 6;
  newfd_flags = word_at line 7;
}

-- ---- requests

abbrev pub plant : List Token → Asked
plant line = asks.Plant (wide_at line 3) (structure_at 112 line 4)

abbrev pub act : Request → Asked
act q = asks.Act q

abbrev pub asked : Deed → List Token → Asked
asked deed.Recv line = asks.Recv (replicate 80 0)
asked deed.RecvRaw line = asks.Recv (structure_at 80 line 3)
asked deed.OpenMem line = asks.OpenMem (word_at line 3)
asked deed.OpenBase line = asks.OpenBase (word_at line 3) (signed_word_at line 4)
asked deed.Check line = asks.Check (wide_at line 3)
asked deed.Read line = asks.Read (wide_at line 3) (half_at line 4)
asked deed.Mknod line = act (node_at line None 4)
asked deed.Mknodat line = act (node_at line (Some (signed_word_at line 4)) 5)
asked deed.Mount line = act (mount_of line)
asked deed.SetXattr line = act (setxattr_of line)
asked deed.Plant line = plant line
asked deed.Addfd line = asks.Addfd (addfd_bytes (addfd_at line))
asked deed.AddfdRaw line = asks.Addfd (structure_at 24 line 3)
asked deed.AddfdResult line = asks.AddfdResult
asked deed.Send line = asks.Send (resp_bytes (resp_at line))
asked deed.SendRaw line = asks.Send (structure_at 24 line 3)
asked deed.LetGo line = asks.LetGo

-- what is looked at; the last word of a path says whether a link at its end is followed
abbrev pub look_of : LookAt → List Token → Look
look_of at.Pid line = looks.Pid (word_at line 2)
look_of at.Fd line = looks.Fd (word_at line 2) (word_at line 3)
look_of at.Path line = looks.Path (word_at line 2) (signed_word_at line 3) (bytes_at line 4) (bytes_eq (bytes_at line 5) (codes "follow"))
look_of at.Listener line = looks.Listener

-- the number of the worker, where it is at most 15
abbrev pub worker_at : List Token → Option ℕ
worker_at line = below 16 (number_at line 1)

abbrev pub by_worker : Option ℕ → Asked → Result StepRequest LineFault
by_worker (Some number) what = Ok (step.Worker number what)
by_worker None what = Err fault.Worker

-- what a line asks for
abbrev pub request : Form → List Token → Result StepRequest LineFault
request form.Able line = Ok step.Able
request form.Task line = Ok (step.Task (task_numbers (bytes_at line 1)))
request (form.Worker d) line = by_worker (worker_at line) (asked d line)
request form.Report line = Ok step.Report
request form.Script line = Ok step.Script
request (form.Judge idle) line = Ok (step.Judge idle)
request (form.Look a) line = Ok (step.Look (look_of a line))
request form.Close line = Ok step.Close
