-- The state that a listener is, what it answers, and what each call makes of it.
use Rattle.std.specs.Prelude.{ℕ, Bool, true, false, ◌&&◌, not, if◌then◌else◌, ◌==◌, Option, Some, None, is_some, Result, Ok, Err}
use Rattle.hist_model.specs.Look.{Name}
use Rattle.hist_model.specs.Kinds.{has_send_flag}
use Rattle.hist_model.specs.declared.event.Back.{Back}
use Rattle.hist_model.specs.declared.event.Back.TheVariants as back
use Rattle.hist_model.specs.declared.notification.Reply.{Reply}
use Rattle.hist_model.specs.declared.notification.Reply.TheVariants.{Value, Fail, Continue, Installing}
use Rattle.hist_model.specs.declared.notification.State.{State as CallState}
use Rattle.hist_model.specs.declared.notification.State.TheVariants.{Fetched, Answered}
use Rattle.sys_abi.specs.Errnos.{enoent, ebusy, einprogress}
use Rattle.sys_abi.specs.declared.wire.Addfd.{Addfd}
use Rattle.listener.specs.declared.requests.Request.{Request as Ask}
use Rattle.listener.specs.declared.listener.Listener.{Listener}
use Rattle.listener.specs.declared.listener.TakeError.{TakeError}
use Rattle.listener.specs.declared.listener.TakeError.TheVariants.{Pending, Fault}
use Rattle.listener.specs.State.{State, row_named, with_reply}
use Rattle.listener.specs.Table as table

-- the state, where the tasks have these names
abbrev pub view : Listener → (ℕ → Name) → State
view L names = table.view L.queue names L.requests

-- an id is valid that names a call which waits for its answer, by how far the named call is
abbrev pub validity : Option CallState → Result (Unit {0}) ℕ
validity (Some Fetched) = Ok tt
validity state = Err enoent

-- an answer to no listed call; to one that waits for it; to one that isn't received yet, or answered
abbrev pub send_admission : Option CallState → Result (Unit {0}) ℕ
send_admission None = Err enoent
send_admission (Some Fetched) = Ok tt
send_admission (Some state) = Err einprogress

-- a request for no listed call; for one that waits, with so many requests that aren't installed;
-- for one that isn't received yet, or answered
abbrev pub put_admission : Addfd → Option CallState → ℕ → Result (Unit {0}) ℕ
put_admission asked None queued = Err enoent
put_admission asked (Some Fetched) queued = if has_send_flag asked && not (queued == 0) then Err ebusy else Ok tt
put_admission asked (Some state) queued = Err einprogress

-- a request with SEND writes this as the reply of its call
abbrev pub with_sent : Addfd → Option Reply → ℕ → State → State
with_sent asked y x s = if has_send_flag asked then with_reply x y s else s

-- what a worker is told: what the installation answered, else pending where the call is listed, else ENOENT
abbrev pub taken : Option (Result ℕ ℕ) → Bool → Result ℕ TakeError
taken (Some (Ok n)) listed = Ok n
taken (Some (Err errno)) listed = Err (Fault errno)
taken None true = Err Pending
taken None false = Err (Fault enoent)

-- the same of its request in a state
abbrev pub taken_from : State → Option Ask → Result ℕ TakeError
taken_from s (Some q) = taken q.result (is_some (row_named q.asked.id s))
taken_from s None = Err (Fault enoent)

-- a worker that is told this has no request any more
abbrev pub is_over : Result ℕ TakeError → Bool
is_over (Err Pending) = false
is_over answer = true

-- how a call with this reply returns; none where its descriptor isn't installed yet
abbrev pub back_of : Option Reply → Option Back
back_of (Some (Value v)) = Some (back.Value v)
back_of (Some (Fail e)) = Some (back.Fail e)
back_of (Some Continue) = Some back.Continue
back_of (Some Installing) = None
back_of None = None

-- the notification of a call of this state was received
abbrev pub was_fetched : Option CallState → Bool
was_fetched (Some Fetched) = true
was_fetched (Some Answered) = true
was_fetched _ = false
