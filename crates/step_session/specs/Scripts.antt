-- The script that plays a history again: the lines of the script itself, and behind them a schedule with a line for each step of a task
-- and for each thing that a worker asked the kernel for. `step_requests` reads such a line of a worker.
use Rattle.std.specs.Prelude.{ℕ, Bool, ◌||◌, ◌==◌, nat_eq, if◌then◌else◌, List, [], ◌∷◌, ◌++◌, reverse, Some, None, codes, decimal}
use Rattle.std.specs.Fmt.{signed_decimal}
use Rattle.std.specs.List.{flat_map, starts_with}
use Rattle.hist_model.specs.ReportWords.{hex, name_text, quoted}
use Rattle.hist_model.specs.declared.event.Actor.{Actor}
use Rattle.hist_model.specs.declared.event.Actor.TheVariants as actor
use Rattle.hist_model.specs.declared.event.Back.{Back}
use Rattle.hist_model.specs.declared.event.Back.TheVariants.{Value, Fail, Continue}
use Rattle.hist_model.specs.declared.event.Event.{Event}
use Rattle.hist_model.specs.declared.event.What.{What}
use Rattle.hist_model.specs.declared.event.What.TheVariants.{Recv, OpenMem, OpenBase, Check, Read, Act, Plant, AddfdPut, AddfdTake}
use Rattle.hist_model.specs.declared.event.What.TheVariants.{Send, LetGo}
use Rattle.hist_model.specs.declared.request.Request.{Request}
use Rattle.hist_model.specs.declared.request.Request.TheVariants.{Mknod, Mount, SetXattr}
use Rattle.lex_core.specs.Lines.{split}
use Rattle.sys_abi.specs.declared.wire.Addfd.{Addfd}

-- ---- the lines of the script itself

abbrev pub is_blank : ℕ → Bool
is_blank b = b == 32 || b == 9

-- bytes without the blanks and tabs before them
unfoldable pub unindented : List ℕ → List ℕ
unindented [] = []
unindented (b ∷ bytes) = if is_blank b then unindented bytes else b ∷ bytes

-- of the lines of a script only that which opens the schedule begins with this word
abbrev pub opens_schedule : List ℕ → Bool
opens_schedule line = starts_with nat_eq (unindented line) (codes "schedule")

unfoldable pub lines_before : List (List ℕ) → List ℕ
lines_before [] = []
lines_before (line ∷ lines) = if opens_schedule line then [] else line ++ codes "\n" ++ lines_before lines

-- the lines before a script's schedule
abbrev pub before_schedule : List ℕ → List ℕ
before_schedule bytes = lines_before (split bytes)

-- ---- what a worker asked for

-- an operand: a number, or a text
abbrev pub field : ℕ → List ℕ
field n = codes " " ++ decimal n

abbrev pub text : List ℕ → List ℕ
text bytes = codes " " ++ quoted bytes

abbrev pub node_text : List ℕ → ℕ → ℕ → List ℕ
node_text path mode dev = text path ++ field mode ++ field dev

-- the program that serves a mount, and whether it shifts owners
abbrev pub via_text : List ℕ → List ℕ
via_text [] = []
via_text (b ∷ program) = codes " via" ++ text (b ∷ program)

abbrev pub shift_text : Bool → List ℕ
shift_text shift = if shift then codes " shift" else []

-- a call that a worker makes itself, with its texts in place; it makes no others
abbrev pub act_text : Request → List ℕ
act_text (Mknod None path mode dev) = codes "mknod" ++ node_text path mode dev
act_text (Mknod (Some dirfd) path mode dev) = codes "mknodat " ++ signed_decimal dirfd ++ node_text path mode dev
act_text (Mount source target fstype options via flags shift) =
    codes "mount" ++ text source ++ text target ++ text fstype ++ field flags ++ text options ++ via_text via ++ shift_text shift
act_text (SetXattr path name value flags) = codes "setxattr" ++ text path ++ text name ++ text value ++ field flags
act_text _ = []

-- the fields of a request for a descriptor (seccomp_unotify(2), struct seccomp_notif_addfd)
abbrev pub addfd_text : Addfd → List ℕ
addfd_text want = field want.id ++ field want.flags ++ field want.srcfd ++ field want.newfd ++ field want.newfd_flags

-- the fields of an answer behind its id: value, error and flags (struct seccomp_notif_resp)
abbrev pub back_text : Back → List ℕ
back_text (Value v) = codes " " ++ signed_decimal v ++ codes " 0 0"
back_text (Fail e) = codes " 0 -" ++ decimal e ++ codes " 0"
back_text Continue = codes " 0 0 1"

-- what a worker asked the kernel for
abbrev pub deed_text : What → List ℕ
deed_text (Recv answer) = codes "recv"
deed_text (OpenMem pid answer) = codes "open-mem" ++ field pid
deed_text (OpenBase pid dirfd answer) = codes "open-base" ++ field pid ++ codes " " ++ signed_decimal dirfd
deed_text (Check id answer) = codes "check" ++ field id
deed_text (Read addr len answer) = codes "read" ++ field addr ++ field len
deed_text (Act request cap answer) = codes "act " ++ act_text request
deed_text (Plant addr bytes cap answer) = codes "plant" ++ field addr ++ codes " " ++ hex bytes
deed_text (AddfdPut want answer) = codes "addfd" ++ addfd_text want
deed_text (AddfdTake answer) = codes "addfd-result"
deed_text (Send id back answer) = codes "send" ++ field id ++ back_text back
deed_text LetGo = codes "let-go"
deed_text _ = []

-- ---- the schedule

-- the line of an event; the container's start and the closing of the listener have none
abbrev pub turn_of : Actor → What → List ℕ
turn_of (actor.Task n) what = codes "t " ++ name_text n ++ codes "\n"
turn_of (actor.Worker w) what = codes "w " ++ decimal w ++ codes " " ++ deed_text what ++ codes "\n"
turn_of _ what = []

abbrev pub turn_text : Event → List ℕ
turn_text e = turn_of e.who e.what

-- the lines before the schedule, and the schedule
abbrev pub script_text : List ℕ → List Event → List ℕ
script_text front K = front ++ codes "schedule\n" ++ flat_map turn_text (reverse K) ++ codes "end\n"

-- ---- limits

-- how many events a script can play: its start, 200,000 steps, and the closing of the listener
abbrev pub most_events : Bool → ℕ
most_events closed = if closed then 200002 else 200001

-- how many bytes a script may have
abbrev pub most_bytes : ℕ
most_bytes = 8388608
