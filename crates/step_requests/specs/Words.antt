-- The words that say which request a line is.
use Rattle.std.specs.Prelude.{ℕ, true, false, if◌then◌else◌, List, [], ◌∷◌, Option, Some, None, Result, Ok, Err, bytes_eq, codes}
use Rattle.lex_core.specs.declared.line.Token.{Token}
use Rattle.lex_core.specs.declared.line.Token.TheVariants.{Bare, Quoted}
use Rattle.lex_core.specs.declared.reason.Reason.{Reason}
use Rattle.lex_core.specs.declared.reason.Reason.TheVariants.{UnknownWord, WrongCount}
use Rattle.step_requests.specs.declared.word.Form.{Form}
use Rattle.step_requests.specs.declared.word.Form.TheVariants as form
use Rattle.step_requests.specs.declared.word.Deed.{Deed}
use Rattle.step_requests.specs.declared.word.Deed.TheVariants as deed
use Rattle.step_requests.specs.declared.word.LookAt.{LookAt}
use Rattle.step_requests.specs.declared.word.LookAt.TheVariants as look

-- the word that a token is; a text between quotes is none, and no word is empty
abbrev pub word_of : Token → List ℕ
word_of (Bare word) = word
word_of (Quoted bytes) = []

-- a request without a worker
abbrev pub form_named : List ℕ → Option Form
form_named word =
    if bytes_eq word (codes "able") then Some form.Able
    else (if bytes_eq word (codes "t") then Some form.Task
    else (if bytes_eq word (codes "report") then Some form.Report
    else (if bytes_eq word (codes "script") then Some form.Script
    else (if bytes_eq word (codes "close") then Some form.Close
    else None))))

-- what a worker does for the answer of a call
abbrev pub answer_named : List ℕ → Option Deed
answer_named word =
    if bytes_eq word (codes "addfd") then Some deed.Addfd
    else (if bytes_eq word (codes "addfd-raw") then Some deed.AddfdRaw
    else (if bytes_eq word (codes "addfd-result") then Some deed.AddfdResult
    else (if bytes_eq word (codes "send") then Some deed.Send
    else (if bytes_eq word (codes "send-raw") then Some deed.SendRaw
    else (if bytes_eq word (codes "let-go") then Some deed.LetGo
    else None)))))

-- what a worker does, but for `act`
abbrev pub deed_named : List ℕ → Option Deed
deed_named word =
    if bytes_eq word (codes "recv") then Some deed.Recv
    else (if bytes_eq word (codes "recv-raw") then Some deed.RecvRaw
    else (if bytes_eq word (codes "open-mem") then Some deed.OpenMem
    else (if bytes_eq word (codes "open-base") then Some deed.OpenBase
    else (if bytes_eq word (codes "check") then Some deed.Check
    else (if bytes_eq word (codes "read") then Some deed.Read
    else (if bytes_eq word (codes "plant") then Some deed.Plant
    else answer_named word))))))

-- the call behind `act`
abbrev pub call_named : List ℕ → Option Deed
call_named word =
    if bytes_eq word (codes "mknod") then Some deed.Mknod
    else (if bytes_eq word (codes "mknodat") then Some deed.Mknodat
    else (if bytes_eq word (codes "mount") then Some deed.Mount
    else (if bytes_eq word (codes "setxattr") then Some deed.SetXattr
    else None)))

abbrev pub worker_form : Option Deed → Result Form Reason
worker_form (Some d) = Ok (form.Worker d)
worker_form None = Err UnknownWord

-- behind `act` stands the call
abbrev pub form_behind_act : List Token → Result Form Reason
form_behind_act [] = Err WrongCount
form_behind_act (call ∷ operands) = worker_form (call_named (word_of call))

-- behind the number of the worker stands what it does
abbrev pub form_behind_number : List Token → Result Form Reason
form_behind_number [] = Err WrongCount
form_behind_number (does ∷ operands) =
    if bytes_eq (word_of does) (codes "act") then form_behind_act operands else worker_form (deed_named (word_of does))

-- behind `w` stands the number of the worker
abbrev pub form_behind_w : List Token → Result Form Reason
form_behind_w [] = Err WrongCount
form_behind_w (number ∷ rest) = form_behind_number rest

-- behind `judge` stands nothing, or `idle`
abbrev pub form_behind_judge : List Token → Result Form Reason
form_behind_judge [] = Ok (form.Judge false)
form_behind_judge (how ∷ more) = if bytes_eq (word_of how) (codes "idle") then Ok (form.Judge true) else Err UnknownWord

-- what is looked at
abbrev pub look_named : List ℕ → Option LookAt
look_named word =
    if bytes_eq word (codes "pid") then Some look.Pid
    else (if bytes_eq word (codes "fd") then Some look.Fd
    else (if bytes_eq word (codes "path") then Some look.Path
    else (if bytes_eq word (codes "listener") then Some look.Listener
    else None)))

abbrev pub look_form : Option LookAt → Result Form Reason
look_form (Some at) = Ok (form.Look at)
look_form None = Err UnknownWord

-- behind `look` stands what is looked at
abbrev pub form_behind_look : List Token → Result Form Reason
form_behind_look [] = Err WrongCount
form_behind_look (at ∷ operands) = look_form (look_named (word_of at))

abbrev pub known : Option Form → Result Form Reason
known (Some f) = Ok f
known None = Err UnknownWord

abbrev pub plain_form : List ℕ → Result Form Reason
plain_form word = known (form_named word)

-- which request a line is
abbrev pub form_of : List Token → Result Form Reason
form_of [] = Err UnknownWord
form_of (first ∷ rest) =
    if bytes_eq (word_of first) (codes "w") then form_behind_w rest
    else (if bytes_eq (word_of first) (codes "judge") then form_behind_judge rest
    else (if bytes_eq (word_of first) (codes "look") then form_behind_look rest
    else plain_form (word_of first)))
