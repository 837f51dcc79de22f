-- Each line of a legal history's journal is a line: its last byte alone is a 10.
-- By cases on what happened.
use Rattle.std.proofs.Common.{◌≡◌, ℕ, Bool, true, false, List, [], ◌∷◌, ◌++◌, refl}
use Rattle.std.specs.Prelude.{◌==◌, ◌%◌, Result, Ok, Err, decimal}
use Rattle.sys_abi.specs.declared.wire.Addfd.{Addfd}
use Rattle.sys_abi.specs.declared.wire.Notif.{Notif}
use Rattle.hist_model.specs.Kinds.{has_send_flag}
use Rattle.hist_model.specs.Look.{Name}
use Rattle.call_table.specs.declared.kinds.LinePiece.{LinePiece}
use Rattle.call_table.specs.declared.kinds.LinePiece.TheVariants.{Quoted, Hexed, Signed, Node, Flags, Data, Via, Shifted}
use Rattle.call_table.specs.Table.{line_by_row, row_of}
use Rattle.hist_model.specs.Requests.{Called, called, is_set_at, kind_of, low_16, low_32, natural_at}
use Rattle.hist_model.specs.ReportWords.{trimmed}
use Rattle.hist_model.specs.ReportJournal.{args_text, asked_text, delivered_text, entered_text, disposition_text, node_text, read_text, reaped_text, received_text, piece_text, request_text, shift_text, sending_text, spawn_kind_text, spawned_text, target_text, what_text}
use Rattle.hist_model.specs.declared.event.What.{What}
use Rattle.hist_model.specs.declared.event.What.TheVariants.{Spawn, Poke, Handler, Enter, Native, Install, Resume, Signal, Deliver, Reap, Exit, Recv, OpenMem, OpenBase, Check, Read, Act, Plant, AddfdPut, AddfdTake, Send, LetGo, Skip, Close}
use Rattle.hist_model.specs.declared.event.SpawnKind.{SpawnKind}
use Rattle.hist_model.specs.declared.event.SpawnKind.TheVariants.{New, Copied, Shared}
use Rattle.hist_model.specs.declared.event.Disposition.{Disposition}
use Rattle.hist_model.specs.declared.event.Disposition.TheVariants.{Default, Restart as RestartDisposition, Plain}
use Rattle.hist_model.specs.declared.event.Entered.{Entered}
use Rattle.hist_model.specs.declared.event.Entered.TheVariants.{Notify, Allow, Log, Fails, NoSys, Kill}
use Rattle.hist_model.specs.declared.event.Delivered.{Delivered}
use Rattle.hist_model.specs.declared.event.Delivered.TheVariants.{End, Run, Restart, Eintr}
use Rattle.hist_model.specs.declared.request.Request.{Request}
use Rattle.hist_model.specs.declared.request.Kind.{Kind}
use Rattle.hist_model.specs.declared.request.Kind.TheVariants.{Reg, Chr, Blk, Fifo, Sock, Dir, Bad}
use Rattle.audit_check.proofs.Lines.{is_plain, lacks_append}
use Rattle.audit_check.proofs.Plain.{lacks_flat, plain_back, plain_call, plain_decimal, plain_errno, plain_hex, plain_hex_or_dash, plain_name, plain_number, plain_program, plain_quoted, plain_result, plain_signed}

ruleset texts = (lacks_append, plain_back, plain_call, plain_decimal, plain_errno, plain_hex, plain_hex_or_dash, plain_name, plain_number, plain_program, plain_quoted, plain_result, plain_signed)

-- ---- The parts of a line

spawn_kind-plain : (k : SpawnKind) → is_plain (spawn_kind_text k) ≡ true
spawn_kind-plain New = refl
spawn_kind-plain Copied = refl
spawn_kind-plain Shared = refl

spawned-plain : (a : Result (ℕ × SpawnKind) ℕ) → is_plain (spawned_text a) ≡ true
spawned-plain (Ok a) = lacks_append 10 (decimal a.0 ++ 32 ∷ []) (spawn_kind_text a.1) (search texts) (spawn_kind-plain a.1)
spawned-plain (Err e) = plain_errno e

disposition-plain : (m : Disposition) → is_plain (disposition_text m) ≡ true
disposition-plain Default = refl
disposition-plain RestartDisposition = refl
disposition-plain Plain = refl

entered-plain : (v : Entered) → is_plain (entered_text v) ≡ true
entered-plain (Notify id) = plain_decimal id
entered-plain Allow = refl
entered-plain Log = refl
entered-plain (Fails n) = plain_decimal n
entered-plain NoSys = refl
entered-plain Kill = refl

args-plain : (args : List ℕ) → is_plain (args_text args) ≡ true
args-plain args = lacks_flat 10 (λ a. 32 ∷ decimal a) plain_decimal args

delivered-plain : (d : Delivered) → is_plain (delivered_text d) ≡ true
delivered-plain End = refl
delivered-plain Run = refl
delivered-plain Restart = refl
delivered-plain Eintr = refl

reaped-plain : (a : Result Name ℕ) → is_plain (reaped_text a) ≡ true
reaped-plain (Ok n) = plain_name n
reaped-plain (Err e) = plain_errno e

received-plain : (a : Result Notif ℕ) → is_plain (received_text a) ≡ true
received-plain (Ok n) = search texts
received-plain (Err e) = plain_errno e

read-plain : (a : Result (List ℕ) ℕ) → is_plain (read_text a) ≡ true
read-plain (Ok bytes) = plain_hex_or_dash (trimmed bytes)
read-plain (Err e) = plain_errno e

node-plain : (k : Kind) (dev : ℕ) → is_plain (node_text k dev) ≡ true
node-plain Reg dev = refl
node-plain Chr dev = search texts
node-plain Blk dev = search texts
node-plain Fifo dev = refl
node-plain Sock dev = refl
node-plain Dir dev = refl
node-plain Bad dev = refl

shift-plain : (s : Bool) → is_plain (shift_text s) ≡ true
shift-plain true = refl
shift-plain false = refl

piece-plain : (c : Called) (p : LinePiece) → is_plain (piece_text c p) ≡ true
piece-plain c (Quoted place) = search texts
piece-plain c (Hexed place) = search texts
piece-plain c (Signed place) = search texts
piece-plain c (Node mode device) = search (texts, node-plain (kind_of (low_16 (natural_at c mode))) (low_32 (natural_at c device)))
piece-plain c (Flags place) = search texts
piece-plain c (Data place) = search texts
piece-plain c (Via place) = search texts
piece-plain c (Shifted place) = search (texts, shift-plain (is_set_at c place))

request-plain : (q : Request) → is_plain (request_text q) ≡ true
request-plain q = search (texts, plain_call (called q).nr, lacks_flat 10 (λ p. piece_text (called q) p) (piece-plain (called q)) (line_by_row (row_of (called q).nr)))

target-plain : (b : Bool) (n : ℕ) → is_plain (target_text b n) ≡ true
target-plain true n = plain_decimal n
target-plain false n = refl

sending-plain : (b : Bool) → is_plain (sending_text b) ≡ true
sending-plain true = refl
sending-plain false = refl

asked-plain : (a : Addfd) → is_plain (asked_text a) ≡ true
asked-plain a = search (texts, target-plain (a.flags % 2 == 1) a.newfd, sending-plain (has_send_flag a)) depth 12

-- ---- What happened

pub plain_what : (a : What) → is_plain (what_text a) ≡ true
plain_what (Spawn child answer) = search (texts, spawned-plain answer)
plain_what (Poke addr bytes) = search texts
plain_what (Handler sig disposition) = search (texts, disposition-plain disposition)
plain_what (Enter nr args verdict) = search (texts, args-plain args, entered-plain verdict)
plain_what (Native answer) = plain_number answer
plain_what (Install answer) = plain_number answer
plain_what (Resume back) = plain_back back
plain_what (Signal pid sig answer) = search texts
plain_what (Deliver sig effect) = search (texts, delivered-plain effect)
plain_what (Reap answer) = reaped-plain answer
plain_what Exit = refl
plain_what (Recv answer) = received-plain answer
plain_what (OpenMem pid answer) = search texts
plain_what (OpenBase pid dirfd answer) = search texts
plain_what (Check id answer) = search texts
plain_what (Read addr len answer) = search (texts, read-plain answer)
plain_what (Act request cap answer) = search (texts, request-plain request)
plain_what (Plant addr bytes cap answer) = search texts
plain_what (AddfdPut asked answer) = search (texts, asked-plain asked)
plain_what (AddfdTake answer) = plain_number answer
plain_what (Send id back answer) = search texts
plain_what LetGo = refl
plain_what Skip = refl
plain_what Close = refl
