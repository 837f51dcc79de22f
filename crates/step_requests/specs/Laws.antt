-- What follows from the definitions.
use Rattle.std.specs.Prelude.{◌≡◌, ℕ, ◌^◌, ◌<◌, Bool, false, if◌then◌else◌, ◌==◌, List, [], ◌∷◌, replicate, codes, ℤ, pos, Some}
use Rattle.std.specs.Prelude.{Result, Ok, Err, FitsSigned}
use Rattle.std.specs.Int.{w32, w64, cast_unsigned}
use Rattle.std.specs.List.{list_any}
use Rattle.hex.specs.Hex.{decode_sized}
use Rattle.hist_model.specs.Decisions.{dirfd_of}
use Rattle.hist_model.specs.Effects.{effect}
use Rattle.hist_model.specs.Requests as calls
use Rattle.hist_model.specs.declared.policy.Rule.{Rule}
use Rattle.lex_core.specs.declared.line.Token.{Token}
use Rattle.lex_core.specs.declared.line.Token.TheVariants.{Bare}
use Rattle.lex_core.specs.Lexical.{tokens}
use Rattle.lex_core.specs.Lines.{is_skipped, without_return}
use Rattle.lex_core.specs.Numbers as numbers
use Rattle.sys_abi.specs.Calls.{nr_mknod, nr_mknodat, nr_mount, nr_setxattr}
use Rattle.sys_abi.specs.Wire.{resp_bytes, addfd_bytes}
use Rattle.sys_abi.specs.declared.wire.Resp.{Resp}
use Rattle.sys_abi.specs.declared.wire.Addfd.{Addfd}
use Rattle.step_requests.specs.declared.fault.LineFault.{LineFault}
use Rattle.step_requests.specs.declared.fault.LineFault.TheVariants.{Empty}
use Rattle.step_requests.specs.declared.request.Asked.TheVariants.{Act}
use Rattle.step_requests.specs.declared.request.StepRequest.{StepRequest}
use Rattle.step_requests.specs.declared.request.StepRequest.TheVariants.{Worker}
use Rattle.step_requests.specs.declared.word.Deed.TheVariants as deed
use Rattle.step_requests.specs.Readings.{read, read_tokens, reads}
use Rattle.step_requests.specs.Requests.{asked, bytes_at, has_shift, program_of, signed_word_at, wide_at, word_at}

-- ---- structures, by their fields and by their bytes

-- a word is this number, in whatever base
abbrev pub Says : List ℕ → ℤ → Type 0
Says word n = numbers.number word ≡ Some n

-- digits stand for the bytes of a structure of this size, in either case
abbrev pub Writes : List ℕ → ℕ → List ℕ → Type 0
Writes digits size bytes = decode_sized digits size ≡ Ok bytes

-- a line of a worker with these operands
abbrev pub worker_line : Token → List ℕ → List (List ℕ) → List Token
worker_line number does operands = Bare (codes "w") ∷ number ∷ Bare does ∷ bare operands
  where
    bare : List (List ℕ) → List Token
    bare [] = []
    bare (word ∷ words) = Bare word ∷ bare words

-- a buffer of zeros may be left out
abbrev pub ReceivesIntoZeros : Type 0
ReceivesIntoZeros = (number : Token) (digits : List ℕ) → Writes digits 80 (replicate 80 0)
    → read (worker_line number (codes "recv") []) ≡ read (worker_line number (codes "recv-raw") (digits ∷ []))

-- the numbers of an answer fit their fields
pub record IsResp (resp : Resp) : Type 0 where
  pub id : resp.id < 2 ^ 64
  pub val : FitsSigned w64 resp.val
  pub error : FitsSigned w32 resp.error
  pub flags : resp.flags < 2 ^ 32

-- an answer's fields ask for what its bytes ask for
abbrev pub SendsTheFields : Type 0
SendsTheFields = (number : Token) (resp : Resp) (id val error flags digits : List ℕ) → IsResp resp
    → Says id (pos resp.id) → Says val resp.val → Says error resp.error → Says flags (pos resp.flags)
    → Writes digits 24 (resp_bytes resp)
    → read (worker_line number (codes "send") (id ∷ val ∷ error ∷ flags ∷ [])) ≡ read (worker_line number (codes "send-raw") (digits ∷ []))

-- the numbers of a request for a descriptor fit their fields
pub record IsAddfd (want : Addfd) : Type 0 where
  pub id : want.id < 2 ^ 64
  pub flags : want.flags < 2 ^ 32
  pub srcfd : want.srcfd < 2 ^ 32
  pub newfd : want.newfd < 2 ^ 32
  pub newfd_flags : want.newfd_flags < 2 ^ 32

-- so do those of a request for a descriptor
abbrev pub PutsTheFields : Type 0
PutsTheFields = (number : Token) (want : Addfd) (id flags srcfd newfd newfd_flags digits : List ℕ) → IsAddfd want
    → Says id (pos want.id) → Says flags (pos want.flags) → Says srcfd (pos want.srcfd) → Says newfd (pos want.newfd)
    → Says newfd_flags (pos want.newfd_flags) → Writes digits 24 (addfd_bytes want)
    → read (worker_line number (codes "addfd") (id ∷ flags ∷ srcfd ∷ newfd ∷ newfd_flags ∷ []))
    ≡ read (worker_line number (codes "addfd-raw") (digits ∷ []))

-- ---- the calls that a worker makes

-- both are refused for one reason, or ask one worker for requests that do the same, from the same directory
abbrev pub ActAlike : Result StepRequest LineFault → Result StepRequest LineFault → Type 0
ActAlike (Ok (Worker n (Act q))) (Ok (Worker m (Act p))) = (n ≡ m) × (effect q ≡ effect p) × (dirfd_of q ≡ dirfd_of p)
ActAlike (Err why) (Err other) = why ≡ other
ActAlike _ _ = ⊥

-- a line that acts
abbrev pub act_line : Token → List ℕ → List Token → List Token
act_line number call operands = Bare (codes "w") ∷ number ∷ Bare (codes "act") ∷ Bare call ∷ operands

-- mknod is mknodat of AT_FDCWD
abbrev pub MknodIsMknodat : Type 0
MknodIsMknodat = (number path mode dev : Token)
    → ActAlike (read (act_line number (codes "mknod") (path ∷ mode ∷ dev ∷ [])))
    (read (act_line number (codes "mknodat") (Bare (codes "-100") ∷ path ∷ mode ∷ dev ∷ [])))

-- the request of a line is that of a call with these arguments and texts, whose addresses don't matter; a mount is what a
-- rule with its program and its shift grants of such a call
pub record AreOfCalls (line : List Token) : Type 0 where
  pub mknod : (path : ℕ) → asked deed.Mknod line
      ≡ Act (calls.request (pos nr_mknod) (path ∷ word_at line 5 ∷ wide_at line 6 ∷ []) (bytes_at line 4 ∷ []))
  pub mknodat : (path : ℕ) → asked deed.Mknodat line
      ≡ Act (calls.request (pos nr_mknodat)
      (cast_unsigned w32 (signed_word_at line 4) ∷ path ∷ word_at line 6 ∷ wide_at line 7 ∷ []) (bytes_at line 5 ∷ []))
  pub mount : (rule : Rule) (source target fstype options : ℕ) → rule.via ≡ program_of line → rule.shift ≡ has_shift line
      → asked deed.Mount line
      ≡ Act (calls.granted rule (calls.request (pos nr_mount) (source ∷ target ∷ fstype ∷ wide_at line 7 ∷ options ∷ [])
      (bytes_at line 4 ∷ bytes_at line 5 ∷ bytes_at line 6 ∷ bytes_at line 8 ∷ [])))
  pub setxattr : (path name value size : ℕ) → asked deed.SetXattr line
      ≡ Act (calls.request (pos nr_setxattr) (path ∷ name ∷ value ∷ size ∷ wide_at line 7 ∷ [])
      (bytes_at line 4 ∷ bytes_at line 5 ∷ bytes_at line 6 ∷ []))

abbrev pub ActsAreOfCalls : Type 0
ActsAreOfCalls = (line : List Token) → AreOfCalls line

-- ---- lines

abbrev pub is_line_end : ℕ → Bool
is_line_end b = b == 10

-- a line that is given alone is read by its tokens, without the byte 13 at its end
abbrev pub ReadsItsTokens : Type 0
ReadsItsTokens = (line : List ℕ) → list_any is_line_end line ≡ false
    → reads line ≡ (if is_skipped (without_return line) then Err Empty else read_tokens (tokens (without_return line)))
