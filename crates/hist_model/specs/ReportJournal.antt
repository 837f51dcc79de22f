-- The journal of a report: one line for each event.
use Rattle.std.specs.Prelude.{ℕ, ◌%◌, Bool, true, false, ◌==◌, List, [], ◌∷◌, ◌++◌, length, Result, Ok}
use Rattle.std.specs.Prelude.{Err, codes, decimal}
use Rattle.std.specs.Fmt.{signed_decimal}
use Rattle.std.specs.List.{flat_map}
use Rattle.sys_abi.specs.Devices.{major_of, minor_of}
use Rattle.sys_abi.specs.declared.wire.Notif.{Notif}
use Rattle.sys_abi.specs.declared.wire.Addfd.{Addfd}
use Rattle.hist_model.specs.Kinds.{has_send_flag}
use Rattle.hist_model.specs.Look.{Name}
use Rattle.call_table.specs.declared.kinds.LinePiece.{LinePiece}
use Rattle.call_table.specs.Table.{line_by_row, row_of}
use Rattle.call_table.specs.declared.kinds.LinePiece.TheVariants.{Quoted, Hexed, Signed, Node, Flags, Data, Via, Shifted}
use Rattle.hist_model.specs.Requests.{Called, called, descriptor_at, is_set_at, kind_of, low_16, low_32, natural_at, text_at}
use Rattle.hist_model.specs.ReportWords.{hex, hex_or_dash, trimmed, quoted, program_text, name_text, errno_text, call_text}
use Rattle.hist_model.specs.ReportWords.{result_text, number_text, back_text, actor_text}
use Rattle.hist_model.specs.declared.event.Event.{Event}
use Rattle.hist_model.specs.declared.event.What.{What}
use Rattle.hist_model.specs.declared.event.What.TheVariants.{Spawn, Poke, Handler, Enter, Native, Install, Resume, Signal, Deliver, Reap}
use Rattle.hist_model.specs.declared.event.What.TheVariants.{Exit, Recv, OpenMem, OpenBase, Check, Read, Act, Plant, AddfdPut, AddfdTake}
use Rattle.hist_model.specs.declared.event.What.TheVariants.{Send, LetGo, Skip, Close}
use Rattle.hist_model.specs.declared.event.SpawnKind.{SpawnKind}
use Rattle.hist_model.specs.declared.event.SpawnKind.TheVariants.{New, Copied, Shared}
use Rattle.hist_model.specs.declared.event.Disposition.{Disposition}
use Rattle.hist_model.specs.declared.event.Disposition.TheVariants.{Default, Restart as RestartDisposition, Plain}
use Rattle.hist_model.specs.declared.event.Entered.{Entered}
use Rattle.hist_model.specs.declared.event.Entered.TheVariants.{Notify, Allow, Log, Fails, NoSys, Kill}
use Rattle.hist_model.specs.declared.event.Delivered.{Delivered}
use Rattle.hist_model.specs.declared.event.Delivered.TheVariants.{End, Run, Restart, Eintr}
use Rattle.hist_model.specs.declared.request.Request.{Request}
use Rattle.hist_model.specs.declared.request.Kind.{Kind}
use Rattle.hist_model.specs.declared.request.Kind.TheVariants.{Reg, Chr, Blk, Fifo, Sock, Dir, Bad}

abbrev pub spawn_kind_text : SpawnKind → List ℕ
spawn_kind_text New = codes "new"
spawn_kind_text Copied = codes "copy"
spawn_kind_text Shared = codes "share"

-- what a new task got
abbrev pub spawned_text : Result (ℕ × SpawnKind) ℕ → List ℕ
spawned_text (Ok a) = codes "pid=" ++ decimal a.0 ++ codes " " ++ spawn_kind_text a.1
spawned_text (Err e) = errno_text e

abbrev pub disposition_text : Disposition → List ℕ
disposition_text Default = codes "default"
disposition_text RestartDisposition = codes "restart"
disposition_text Plain = codes "plain"

-- what the filters say
abbrev pub entered_text : Entered → List ℕ
entered_text (Notify id) = codes "notify id=" ++ decimal id
entered_text Allow = codes "allow"
entered_text Log = codes "log"
entered_text (Fails n) = codes "errno=" ++ decimal n
entered_text NoSys = codes "nosys"
entered_text Kill = codes "kill"

-- the arguments of a call, each after a space
abbrev pub args_text : List ℕ → List ℕ
args_text args = flat_map (λ a. codes " " ++ decimal a) args

-- what a delivery does
abbrev pub delivered_text : Delivered → List ℕ
delivered_text End = codes "end"
delivered_text Run = codes "run"
delivered_text Restart = codes "restart"
delivered_text Eintr = codes "eintr"

abbrev pub reaped_text : Result Name ℕ → List ℕ
reaped_text (Ok n) = name_text n
reaped_text (Err e) = errno_text e

abbrev pub received_text : Result Notif ℕ → List ℕ
received_text (Ok notif) = codes "id=" ++ decimal notif.id ++ codes " pid=" ++ decimal notif.pid
received_text (Err e) = errno_text e

-- the bytes that were read, without the zero bytes at their end
abbrev pub read_text : Result (List ℕ) ℕ → List ℕ
read_text (Ok bytes) = hex_or_dash (trimmed bytes)
read_text (Err e) = errno_text e

-- a kind of node, with the numbers of a device
abbrev pub node_text : Kind → ℕ → List ℕ
node_text Reg dev = codes "reg"
node_text Chr dev = codes "chr " ++ decimal (major_of dev) ++ codes ":" ++ decimal (minor_of dev)
node_text Blk dev = codes "blk " ++ decimal (major_of dev) ++ codes ":" ++ decimal (minor_of dev)
node_text Fifo dev = codes "fifo"
node_text Sock dev = codes "sock"
node_text Dir dev = codes "dir"
node_text Bad dev = codes "bad"

abbrev pub shift_text : Bool → List ℕ
shift_text true = codes "1"
shift_text false = codes "0"

-- a piece of the line of a call
abbrev pub piece_text : Called → LinePiece → List ℕ
piece_text c (Quoted place) = codes " " ++ quoted (text_at c.texts place)
piece_text c (Hexed place) = codes " " ++ hex_or_dash (text_at c.texts place)
piece_text c (Signed place) = codes " " ++ signed_decimal (descriptor_at c place)
piece_text c (Node mode device) = codes " " ++ node_text (kind_of (low_16 (natural_at c mode))) (low_32 (natural_at c device))
piece_text c (Flags place) = codes " flags=" ++ decimal (natural_at c place)
piece_text c (Data place) = codes " data=" ++ quoted (text_at c.texts place)
piece_text c (Via place) = codes " via=" ++ program_text (text_at c.texts place)
piece_text c (Shifted place) = codes " shift=" ++ shift_text (is_set_at c place)

abbrev pub pieces_text : Called → List LinePiece → List ℕ
pieces_text c pieces = flat_map (λ p. piece_text c p) pieces

-- what a worker does for a call: its name, and what its row says of it
abbrev pub call_line : Called → List ℕ
call_line c = call_text c.nr ++ pieces_text c (line_by_row (row_of c.nr))

abbrev pub request_text : Request → List ℕ
request_text q = call_line (called q)

-- the number at which a descriptor is asked for: `-` where the flags lack SECCOMP_ADDFD_FLAG_SETFD
abbrev pub target_text : Bool → ℕ → List ℕ
target_text true newfd = decimal newfd
target_text false newfd = codes "-"

-- whether the installation answers the call, too: ` nosend` where the flags lack SECCOMP_ADDFD_FLAG_SEND
abbrev pub sending_text : Bool → List ℕ
sending_text true = []
sending_text false = codes " nosend"

abbrev pub asked_text : Addfd → List ℕ
asked_text asked =
    decimal asked.id ++ codes " src=" ++ decimal asked.srcfd ++ codes " at=" ++ target_text (asked.flags % 2 == 1) asked.newfd
    ++ sending_text (has_send_flag asked)

-- what happened, in words
abbrev pub what_text : What → List ℕ
what_text (Spawn child answer) = codes "spawn " ++ name_text child ++ codes " " ++ spawned_text answer
what_text (Poke addr bytes) = codes "poke " ++ decimal addr ++ codes " " ++ hex bytes
what_text (Handler sig disposition) = codes "handler " ++ decimal sig ++ codes " " ++ disposition_text disposition
what_text (Enter nr args verdict) = codes "call " ++ call_text nr ++ args_text args ++ codes " " ++ entered_text verdict
what_text (Native answer) = codes "native " ++ number_text answer
what_text (Install answer) = codes "install " ++ number_text answer
what_text (Resume back) = codes "resume " ++ back_text back
what_text (Signal pid sig answer) = codes "kill " ++ decimal pid ++ codes " " ++ decimal sig ++ codes " " ++ result_text answer
what_text (Deliver sig effect) = codes "deliver " ++ decimal sig ++ codes " " ++ delivered_text effect
what_text (Reap answer) = codes "wait " ++ reaped_text answer
what_text Exit = codes "exit"
what_text (Recv answer) = codes "recv " ++ received_text answer
what_text (OpenMem pid answer) = codes "open-mem " ++ decimal pid ++ codes " " ++ result_text answer
what_text (OpenBase pid dirfd answer) =
    codes "open-base " ++ decimal pid ++ codes " " ++ signed_decimal dirfd ++ codes " " ++ result_text answer
what_text (Check id answer) = codes "check " ++ decimal id ++ codes " " ++ result_text answer
what_text (Read addr len answer) = codes "read " ++ decimal addr ++ codes " " ++ decimal len ++ codes " " ++ read_text answer
what_text (Act request cap answer) = codes "act " ++ request_text request ++ codes " " ++ result_text answer
what_text (Plant addr bytes cap answer) = codes "plant " ++ decimal addr ++ codes " " ++ result_text answer
what_text (AddfdPut asked answer) = codes "addfd-put " ++ asked_text asked ++ codes " " ++ result_text answer
what_text (AddfdTake answer) = codes "addfd-take " ++ number_text answer
what_text (Send id back answer) = codes "send " ++ decimal id ++ codes " " ++ back_text back ++ codes " " ++ result_text answer
what_text LetGo = codes "let-go"
what_text Skip = codes "skip"
what_text Close = codes "close"

-- the line of the event at a place
abbrev pub event_line : ℕ → Event → List ℕ
event_line place e = decimal place ++ codes " " ++ actor_text e.who ++ codes " " ++ what_text e.what ++ codes "\n"

-- the line of the event that comes after K
abbrev pub journal_line : List Event → Event → List ℕ
journal_line K e = event_line (length K) e

-- what f gives for each event and those before it, one after another, from the oldest on
unfoldable pub lines_of : (List Event → Event → List ℕ) → List Event → List ℕ
lines_of f [] = []
lines_of f (e ∷ K) = lines_of f K ++ f K e

-- the title of a part with so many lines
abbrev pub title : List ℕ → ℕ → List ℕ
title word n = word ++ codes " " ++ decimal n ++ codes "\n"

-- the journal: a line for each event, from the oldest on
abbrev pub journal : List Event → List ℕ
journal K = title (codes "journal") (length K) ++ lines_of journal_line K
