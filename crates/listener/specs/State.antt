-- The state of a listener as a value, and what each event makes of it.
use Rattle.std.specs.Prelude.{ℕ, ◌+◌, ◌-◌, ◌%◌, ◌^◌, Bool, true, false, ◌||◌, not, if◌then◌else◌, ◌==◌, List, [], ◌∷◌, ◌++◌, map, filter}
use Rattle.std.specs.Prelude.{find, Option, Some, None, is_none, Result, Ok, Err, pos}
use Rattle.hist_model.specs.Look.{Name, name_eq, task_name}
use Rattle.hist_model.specs.Kinds.{has_send_flag}
use Rattle.hist_model.specs.declared.event.Actor.{Actor}
use Rattle.hist_model.specs.declared.event.Actor.TheVariants.{Worker}
use Rattle.hist_model.specs.declared.event.Back.{Back}
use Rattle.hist_model.specs.declared.event.Back.TheVariants as back
use Rattle.hist_model.specs.declared.event.Entered.TheVariants.{Notify}
use Rattle.hist_model.specs.declared.event.Event.{Event}
use Rattle.hist_model.specs.declared.event.What.{What}
use Rattle.hist_model.specs.declared.event.What.TheVariants.{Enter, Recv, Send, AddfdPut, AddfdTake, Install, Resume, Deliver, Close}
use Rattle.hist_model.specs.declared.notification.Reply.{Reply}
use Rattle.hist_model.specs.declared.notification.Reply.TheVariants.{Value, Fail, Continue, Installing}
use Rattle.hist_model.specs.declared.notification.State.{State as CallState}
use Rattle.hist_model.specs.declared.notification.State.TheVariants.{Unfetched, Fetched, Answered}
use Rattle.sys_abi.specs.declared.wire.Addfd.{Addfd}
use Rattle.listener.specs.Requests.{is_waiting, new_request}
use Rattle.listener.specs.declared.requests.Request.{Request as Ask}

-- a listed call: its id, its task, whether its notification was received, and how it will return
pub record Row : Type 0 where
  pub id : ℕ
  pub task : Name
  pub fetched : Bool
  pub reply : Option Reply

-- the id of the first call, how many were entered and how many receives answered, the listed calls and the requests, each
-- in the order in which they came
pub record State : Type 0 where
  pub first : ℕ
  pub entered : ℕ
  pub received : ℕ
  pub calls : List Row
  pub asks : List Ask

-- ---- what it answers

-- the count of requests
abbrev pub counted : State → ℕ
counted s = s.entered - s.received

-- the call has this id
abbrev pub has_id : ℕ → Row → Bool
has_id x r = r.id == x

-- the call is this task's
abbrev pub of_task : Name → Row → Bool
of_task n r = name_eq r.task n

-- the listed call that an id names
abbrev pub row_named : ℕ → State → Option Row
row_named x s = find (has_id x) s.calls

-- the task in a call
abbrev pub task_in : Option Row → Option Name
task_in (Some r) = Some r.task
task_in None = None

-- the call in which a task waits
abbrev pub row_of : Name → State → Option Row
row_of n s = find (of_task n) s.calls

-- the oldest call that wasn't received
abbrev pub oldest : State → Option Row
oldest s = find (λ (r : Row). not r.fetched) s.calls

-- the id of the call that is entered next
abbrev pub next_id : State → ℕ
next_id s = (s.first + s.entered) % 2 ^ 64

-- how far a call is
abbrev pub far : Row → CallState
far r = if not r.fetched then Unfetched else (if is_none r.reply then Fetched else Answered)

abbrev pub far_in : Option Row → Option CallState
far_in (Some r) = Some (far r)
far_in None = None

abbrev pub no_rows : List Row → Bool
no_rows [] = true
no_rows (r ∷ rs) = false

-- no call is listed
abbrev pub lists_none : State → Bool
lists_none s = no_rows s.calls

-- the requests for an id that aren't installed
abbrev pub queue : ℕ → State → List Ask
queue x s = filter (is_waiting x) s.asks

-- ---- what becomes of it

-- a call that is entered by a task under this id
abbrev pub new_row : ℕ → Name → Row
new_row x n = record { id = x; task = n; fetched = false; reply = None }

-- a task enters a call
abbrev pub with_entered : Name → State → State
with_entered n s = record s { entered = s.entered + 1; calls = s.calls ++ new_row (next_id s) n ∷ [] }

-- a receive is answered without a notification
abbrev pub with_receive : State → State
with_receive s = record s { received = s.received + 1 }

-- the notification of the call with this id is received
abbrev pub fetch : ℕ → Row → Row
fetch x r = record r { fetched = (x == r.id) || r.fetched }

-- a receive is answered by the notification of the call with this id
abbrev pub with_fetched : ℕ → State → State
with_fetched x s = record s { received = s.received + 1; calls = map (fetch x) s.calls }

-- the call with this id will return so
abbrev pub answer : ℕ → Option Reply → Row → Row
answer x y r = if r.id == x then record r { reply = y } else r

-- the same for the listed calls
abbrev pub with_reply : ℕ → Option Reply → State → State
with_reply x y s = record s { calls = map (answer x y) s.calls }

-- the call with this id leaves the list
abbrev pub without_call : ℕ → State → State
without_call x s = record s { calls = filter (λ r. not (has_id x r)) s.calls }

-- all calls leave the list
abbrev pub without_calls : State → State
without_calls s = record s { calls = [] }

-- a worker asks for a descriptor
abbrev pub with_ask : ℕ → Addfd → State → State
with_ask w a s = record s { asks = s.asks ++ new_request w a ∷ [] }

-- the first request that waits for the id has this result
abbrev pub told : ℕ → Result ℕ ℕ → List Ask → List Ask
told x a [] = []
told x a (q ∷ qs) = if is_waiting x q then record q { result = Some a } ∷ qs else q ∷ told x a qs

-- an installation for the call with this id is answered
abbrev pub with_told : ℕ → Result ℕ ℕ → State → State
with_told x a s = record s { asks = told x a s.asks }

-- a worker's request is taken
abbrev pub without_ask : ℕ → State → State
without_ask w s = record s { asks = filter (λ (q : Ask). not (q.worker == w)) s.asks }

-- ---- by events

-- the reply of a call that is answered so
abbrev pub reply_of : Back → Reply
reply_of (back.Value v) = Value v
reply_of (back.Fail e) = Fail e
reply_of back.Continue = Continue

-- a request with SEND answers its call
abbrev pub after_put : Actor → Addfd → State → State
after_put (Worker w) a s = with_ask w a (if has_send_flag a then with_reply a.id (Some Installing) s else s)
after_put _ a s = s

-- the reply of a call whose descriptor was installed with this answer; after a failure it has none again
abbrev pub result_reply : Result ℕ ℕ → Option Reply
result_reply (Ok n) = Some (Value (pos n))
result_reply (Err e) = None

-- what the first of these requests asked for is installed for the call with this id
abbrev pub after_install : ℕ → Result ℕ ℕ → List Ask → State → State
after_install x a [] s = s
after_install x a (q ∷ qs) s = with_told x a (if has_send_flag q.asked then with_reply x (result_reply a) s else s)

-- it is installed by the task of this call
abbrev pub after_install_by : Result ℕ ℕ → Option Row → State → State
after_install_by a (Some r) s = after_install r.id a (queue r.id s) s
after_install_by a None s = s

-- a worker takes the result of its request
abbrev pub after_take : Actor → State → State
after_take (Worker w) s = without_ask w s
after_take _ s = s

-- a task leaves its call
abbrev pub after_leave : Option Row → State → State
after_leave (Some r) s = without_call r.id s
after_leave None s = s

-- what a step of an actor makes of a state
abbrev pub after_step : Actor → What → State → State
after_step who (Enter nr args (Notify x)) s = with_entered (task_name who) s
after_step who (Recv (Ok notif)) s = with_fetched notif.id s
after_step who (Recv (Err x)) s = with_receive s
after_step who (Send x back (Ok u)) s = with_reply x (Some (reply_of back)) s
after_step who (AddfdPut a (Ok u)) s = after_put who a s
after_step who (AddfdTake a) s = after_take who s
after_step who (Install a) s = after_install_by a (row_of (task_name who) s) s
after_step who (Resume back) s = after_leave (row_of (task_name who) s) s
after_step who (Deliver sig effect) s = after_leave (row_of (task_name who) s) s
after_step who Close s = without_calls s
after_step who what s = s

-- what an event makes of a state
abbrev pub after : State → Event → State
after s e = after_step e.who e.what s
