-- What the kernel answers: ID_VALID, SEND, ADDFD, and a taken installation; what a call returns, and what a task does while it waits.
use Rattle.std.specs.Prelude.{◌≡◌, ℕ, Bool, true, false, not, if◌then◌else◌, List, Some, Result, Err}
use Rattle.hist_model.specs.Calls.{named, settled}
use Rattle.hist_model.specs.Legal.{system_of}
use Rattle.hist_model.specs.Look.{Name}
use Rattle.hist_model.specs.Signals.{call_of}
use Rattle.hist_model.specs.Steps.{check_answer, put_answer, reply, request_listed, request_of, install_at, send_answer, take_step}
use Rattle.hist_model.specs.declared.event.Actor.TheVariants.{Task, Worker}
use Rattle.hist_model.specs.declared.event.Back.{Back}
use Rattle.hist_model.specs.declared.event.Event.{Event}
use Rattle.hist_model.specs.declared.event.What.{What}
use Rattle.hist_model.specs.declared.event.What.TheVariants.{AddfdPut, AddfdTake, Check, Deliver, Install, Resume, Send, Skip}
use Rattle.hist_model.specs.declared.script.Script.{Script}
use Rattle.sys_abi.specs.Errnos.{ebadf}
use Rattle.sys_abi.specs.declared.wire.Addfd.{Addfd}

-- an id is valid exactly where it names a call that waits, else ENOENT
abbrev pub ChecksWaiting : List Event → Event → Type 0
ChecksWaiting K e = (w x : ℕ) (a : Result (Unit {0}) ℕ) → e.who ≡ Worker w → e.what ≡ Check x a → a ≡ check_answer K (named K x)

-- an answer is accepted exactly where its id names a call that waits; EINPROGRESS where that is answered, ENOENT where there is none
abbrev pub SendsToWaiting : List Event → Event → Type 0
SendsToWaiting K e = (w x : ℕ) (b : Back) (a : Result (Unit {0}) ℕ) → e.who ≡ Worker w → e.what ≡ Send x b a
    → a ≡ send_answer K (named K x)

-- a descriptor is accepted exactly where the broker has it, its id names a call that waits, and with SEND nothing is asked for it yet
abbrev pub PutsForWaiting : Script → List Event → Event → Type 0
PutsForWaiting S K e = (w : ℕ) (q : Addfd) (a : Result (Unit {0}) ℕ) → e.who ≡ Worker w → e.what ≡ AddfdPut q a
    → a ≡ (if not ((system_of S).source q.srcfd) then Err ebadf else put_answer (system_of S) K q (named K q.id))

-- a take tells what came of the seat's newest request; ENOENT where its call has gone before
abbrev pub TakesItsRequest : List Event → Event → Type 0
TakesItsRequest K e = (w : ℕ) (a : Result ℕ ℕ) → e.who ≡ Worker w → e.what ≡ AddfdTake a
    → AddfdTake a ≡ take_step (install_at K (request_of K w)) (request_listed K (request_of K w))

-- the call in which a task waits returns what was accepted for it
pub record ReturnsReply (K : List Event) (n : Name) (b : Back) : Type 0 where
  pub call : ℕ
  pub waited_in : call_of K n ≡ Some call
  pub answered : settled K call ≡ true
  pub reply_is : b ≡ reply K call

abbrev pub ReturnsAsAnswered : List Event → Event → Type 0
ReturnsAsAnswered K e = (n : Name) (b : Back) → e.who ≡ Task n → e.what ≡ Resume b → ReturnsReply K n b

-- what a task may do while its call waits
abbrev pub is_step_of_waiting : What → Bool
is_step_of_waiting (Install answer) = true
is_step_of_waiting (Resume back) = true
is_step_of_waiting (Deliver sig effect) = true
is_step_of_waiting Skip = true
is_step_of_waiting _ = false

-- while a call waits, its task stays in it
abbrev pub StaysInCall : List Event → Event → Type 0
StaysInCall K e = (n : Name) (c : ℕ) → e.who ≡ Task n → call_of K n ≡ Some c → is_step_of_waiting e.what ≡ true
