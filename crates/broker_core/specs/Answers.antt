-- How a deed is answered, and which step the history records of a deed and its answer (seccomp_unotify(2)).
use Rattle.std.specs.Prelude.{◌≡◌, ℕ, ◌≤◌, Bool, true, false, List, length, Result, Ok, Err, if◌then◌else◌}
use Rattle.hist_model.specs.Deeds as deed
use Rattle.hist_model.specs.Kinds.{skips}
use Rattle.hist_model.specs.Sessions.{joined}
use Rattle.hist_model.specs.declared.event.What.{What}
use Rattle.hist_model.specs.declared.event.What.TheVariants as step
use Rattle.hist_model.specs.declared.request.Request.{Request}
use Rattle.sys_abi.specs.Errnos.{enoent, efault}
use Rattle.sys_abi.specs.declared.wire.Notif.{Notif}
use Rattle.broker_core.specs.declared.deed.Deed.{Deed}
use Rattle.broker_core.specs.declared.deed.Deed.TheVariants.{Recv, OpenMem, OpenBase, Check, Read, Act, Plant}
use Rattle.broker_core.specs.declared.deed.Deed.TheVariants.{AddfdPut, AddfdTake, Send, LetGo}
use Rattle.broker_core.specs.declared.deed.Got.{Got}
use Rattle.broker_core.specs.declared.deed.Got.TheVariants as got

-- ---- Deeds

-- a deed of the definitions, as the worker names it: the request of an act and the bytes of a plant are told apart
abbrev pub shown : deed.Deed → Deed
shown deed.Recv = Recv
shown (deed.OpenMem pid) = OpenMem pid
shown (deed.OpenBase pid dirfd) = OpenBase pid dirfd
shown (deed.Check id) = Check id
shown (deed.Read addr len) = Read addr len
shown (deed.Act request cap) = Act cap
shown (deed.Plant addr bytes cap) = Plant addr cap
shown (deed.AddfdPut asked) = AddfdPut asked
shown deed.AddfdTake = AddfdTake
shown (deed.Send id back) = Send id back
shown deed.LetGo = LetGo

-- the deed that a worker names, as the definitions have it: an act does this request, and a plant writes these bytes
abbrev pub deed_of : Request → List ℕ → Deed → deed.Deed
deed_of request bytes Recv = deed.Recv
deed_of request bytes (OpenMem pid) = deed.OpenMem pid
deed_of request bytes (OpenBase pid dirfd) = deed.OpenBase pid dirfd
deed_of request bytes (Check id) = deed.Check id
deed_of request bytes (Read addr len) = deed.Read addr len
deed_of request bytes (Act cap) = deed.Act request cap
deed_of request bytes (Plant addr cap) = deed.Plant addr bytes cap
deed_of request bytes (AddfdPut asked) = deed.AddfdPut asked
deed_of request bytes AddfdTake = deed.AddfdTake
deed_of request bytes (Send id back) = deed.Send id back
deed_of request bytes LetGo = deed.LetGo

abbrev pub is_let_go : Deed → Bool
is_let_go LetGo = true
is_let_go _ = false

-- ---- Answers

-- what an answer tells: a notification; that the deed was done; bytes; a number; that there is no answer yet; the error that the deed
-- failed with
pub data Answer : Type 0 where
  Received : Notif → Answer
  Done : Answer
  Bytes : List ℕ → Answer
  Number : ℕ → Answer
  NotYet : Answer
  Failed : ℕ → Answer

abbrev pub told : Got → Answer
told (got.Notif notif) = Received notif
told got.Ok = Done
told (got.Bytes bytes) = Bytes bytes.now
told (got.Number number) = Number number
told got.NotYet = NotYet
told (got.Fault error) = Failed error

abbrev pub is_not_yet : Answer → Bool
is_not_yet NotYet = true
is_not_yet _ = false

abbrev pub done_or_failed : Result (Unit {0}) ℕ → Answer
done_or_failed (Ok u) = Done
done_or_failed (Err e) = Failed e

abbrev pub number_or_failed : Result ℕ ℕ → Answer
number_or_failed (Ok n) = Number n
number_or_failed (Err e) = Failed e

abbrev pub bytes_or_failed : Result (List ℕ) ℕ → Answer
bytes_or_failed (Ok bytes) = Bytes bytes
bytes_or_failed (Err e) = Failed e

abbrev pub received_or_failed : Result Notif ℕ → Answer
received_or_failed (Ok notif) = Received notif
received_or_failed (Err e) = Failed e

-- the answer that a worker's step had; a step that is no worker's, and a skip, have none
abbrev pub answer_of : What → Answer
answer_of (step.Recv answer) = received_or_failed answer
answer_of (step.OpenMem pid answer) = done_or_failed answer
answer_of (step.OpenBase pid dirfd answer) = done_or_failed answer
answer_of (step.Check id answer) = done_or_failed answer
answer_of (step.Read addr len answer) = bytes_or_failed answer
answer_of (step.Act request cap answer) = done_or_failed answer
answer_of (step.Plant addr bytes cap answer) = done_or_failed answer
answer_of (step.AddfdPut asked answer) = done_or_failed answer
answer_of (step.AddfdTake answer) = number_or_failed answer
answer_of (step.Send id back answer) = done_or_failed answer
answer_of step.LetGo = Done
answer_of _ = NotYet

-- the answer is one that the deed can have: a receive has a notification, ENOENT, or none yet; a read has from 1 to as many bytes as
-- were asked for, or EFAULT; the take of a descriptor's number has the number, an error, or none yet; a let-go is done; each other deed
-- is done, or has an error
abbrev pub Fits : Deed → Answer → Type 0
Fits Recv (Received notif) = Unit {0}
Fits Recv (Failed e) = e ≡ enoent
Fits Recv NotYet = Unit {0}
Fits (OpenMem pid) Done = Unit {0}
Fits (OpenMem pid) (Failed e) = Unit {0}
Fits (OpenBase pid dirfd) Done = Unit {0}
Fits (OpenBase pid dirfd) (Failed e) = Unit {0}
Fits (Check id) Done = Unit {0}
Fits (Check id) (Failed e) = Unit {0}
Fits (Read addr len) (Bytes bytes) = (1 ≤ length bytes) × (length bytes ≤ len)
Fits (Read addr len) (Failed e) = e ≡ efault
Fits (Act cap) Done = Unit {0}
Fits (Act cap) (Failed e) = Unit {0}
Fits (Plant addr cap) Done = Unit {0}
Fits (Plant addr cap) (Failed e) = Unit {0}
Fits (AddfdPut asked) Done = Unit {0}
Fits (AddfdPut asked) (Failed e) = Unit {0}
Fits AddfdTake (Number n) = Unit {0}
Fits AddfdTake (Failed e) = Unit {0}
Fits AddfdTake NotYet = Unit {0}
Fits (Send id back) Done = Unit {0}
Fits (Send id back) (Failed e) = Unit {0}
Fits LetGo Done = Unit {0}
Fits _ _ = ⊥

-- ---- Steps

-- the step that the history records where a deed is answered so; a skip where there is no answer yet
abbrev pub step_of : deed.Deed → Answer → What
step_of deed.Recv (Received notif) = step.Recv (Ok notif)
step_of deed.Recv (Failed e) = step.Recv (Err e)
step_of (deed.OpenMem pid) Done = step.OpenMem pid (Ok tt)
step_of (deed.OpenMem pid) (Failed e) = step.OpenMem pid (Err e)
step_of (deed.OpenBase pid dirfd) Done = step.OpenBase pid dirfd (Ok tt)
step_of (deed.OpenBase pid dirfd) (Failed e) = step.OpenBase pid dirfd (Err e)
step_of (deed.Check id) Done = step.Check id (Ok tt)
step_of (deed.Check id) (Failed e) = step.Check id (Err e)
step_of (deed.Read addr len) (Bytes bytes) = step.Read addr len (Ok bytes)
step_of (deed.Read addr len) (Failed e) = step.Read addr len (Err e)
step_of (deed.Act request cap) Done = step.Act request cap (Ok tt)
step_of (deed.Act request cap) (Failed e) = step.Act request cap (Err e)
step_of (deed.Plant addr bytes cap) Done = step.Plant addr bytes cap (Ok tt)
step_of (deed.Plant addr bytes cap) (Failed e) = step.Plant addr bytes cap (Err e)
step_of (deed.AddfdPut asked) Done = step.AddfdPut asked (Ok tt)
step_of (deed.AddfdPut asked) (Failed e) = step.AddfdPut asked (Err e)
step_of deed.AddfdTake (Number n) = step.AddfdTake (Ok n)
step_of deed.AddfdTake (Failed e) = step.AddfdTake (Err e)
step_of (deed.Send id back) Done = step.Send id back (Ok tt)
step_of (deed.Send id back) (Failed e) = step.Send id back (Err e)
step_of deed.LetGo Done = step.LetGo
step_of _ _ = step.Skip

-- a session's own steps with this one, if it is one
abbrev pub with_step : What → List What → List What
with_step what own = if skips what then own else joined what own
