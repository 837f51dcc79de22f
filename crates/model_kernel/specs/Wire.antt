-- What the listener answers to the structures that are handed to it, after a history (seccomp_unotify(2)).
use Rattle.std.specs.Prelude.{ℕ, Bool, ◌&&◌, not, if◌then◌else◌, ◌==◌, List, Result, Ok, Err}
use Rattle.std.specs.List.{list_all}
use Rattle.listener.specs.Puts.{may_be_put}
use Rattle.hist_model.specs.Calls.{count, named}
use Rattle.hist_model.specs.Deeds.{Deed}
use Rattle.hist_model.specs.Deeds as deed
use Rattle.hist_model.specs.Steps.{oldest_unfetched, put_answer, recv_answer, send_answer}
use Rattle.hist_model.specs.Systems.{System}
use Rattle.hist_model.specs.declared.event.Event.{Event}
use Rattle.listener.specs.Answers.{back_of, may_be_sent}
use Rattle.sys_abi.specs.Errnos.{ebadf, einval}
use Rattle.sys_abi.specs.Wire.{notif_bytes}
use Rattle.sys_abi.specs.declared.wire.Addfd.{Addfd}
use Rattle.sys_abi.specs.declared.wire.Notif.{Notif}
use Rattle.sys_abi.specs.declared.wire.Resp.{Resp}
use Rattle.model_kernel.specs.declared.wire.RecvError.{RecvError}
use Rattle.model_kernel.specs.declared.wire.RecvError.TheVariants.{Empty, Fault}

-- a buffer is filled with zeros, as a receive wants it
abbrev pub are_zeros : List ℕ → Bool
are_zeros buf = list_all (λ b. b == 0) buf

-- a receive with this buffer is answered: the buffer is right, and the count of requests isn't 0
abbrev pub is_answered : List Event → List ℕ → Bool
is_answered K buf = are_zeros buf && not (count K == 0)

-- what a receive tells, without the notification
abbrev pub without_notif : Result Notif ℕ → Result (Unit {0}) RecvError
without_notif (Ok n) = Ok tt
without_notif (Err errno) = Err (Fault errno)

-- what a receive with this buffer tells
abbrev pub recv_result : List Event → List ℕ → Result (Unit {0}) RecvError
recv_result K buf =
    if not (are_zeros buf) then Err (Fault einval)
    else (if count K == 0 then Err Empty else without_notif (recv_answer K (oldest_unfetched K)))

-- the bytes of a notification, and those of the buffer where none was received
abbrev pub bytes_or : List ℕ → Result Notif ℕ → List ℕ
bytes_or buf (Ok n) = notif_bytes n
bytes_or buf (Err errno) = buf

-- what the buffer of a receive then holds
abbrev pub buffer_after : List Event → List ℕ → List ℕ
buffer_after K buf = if is_answered K buf then bytes_or buf (recv_answer K (oldest_unfetched K)) else buf

-- what a worker that sends this structure is told
abbrev pub send_result : List Event → Resp → Result (Unit {0}) ℕ
send_result K resp = if may_be_sent resp then send_answer K (named K resp.id) else Err einval

-- the answer that the structure gives to the call of its id
abbrev pub send_of : Resp → Deed
send_of resp = deed.Send resp.id (back_of resp)

-- what a worker that asks for a descriptor by this structure is told
abbrev pub put_result : System → List Event → Addfd → Result (Unit {0}) ℕ
put_result S K asked =
    if not (may_be_put asked) then Err einval
    else (if not (S.source asked.srcfd) then Err ebadf else put_answer S K asked (named K asked.id))
