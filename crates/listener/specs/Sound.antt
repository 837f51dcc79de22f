-- What holds of a history whose events are steps, and what a step is, as far as the listener is concerned.
use Rattle.std.specs.Prelude.{◌≡◌, ℕ, ◌+◌, ◌%◌, ◌^◌, ◌<◌, true, false, List, [], ◌∷◌, Some, None, Ok, All, find}
use Rattle.std.specs.Prelude.{filter, length, is_none, ◌==◌}
use Rattle.hist_model.specs.Look.{Name, task_name}
use Rattle.hist_model.specs.Kinds.{notifies}
use Rattle.hist_model.specs.Calls.{listed, caller, id, named, answered, settled, queue, calls, is_call, is_send, some_sends}
use Rattle.hist_model.specs.declared.event.Event.{Event}
use Rattle.hist_model.specs.declared.event.Actor.TheVariants.{Task, Worker}
use Rattle.hist_model.specs.declared.event.Entered.TheVariants.{Notify}
use Rattle.hist_model.specs.declared.event.What.{What}
use Rattle.hist_model.specs.declared.event.What.TheVariants.{Enter, AddfdPut, AddfdTake, Install, Resume, Deliver}
use Rattle.hist_model.specs.Steps.{request_of, call_at, call_listed, install_of}
use Rattle.listener.specs.Requests.{is_waiting}
use Rattle.listener.specs.Fold.{ask_places, ask_at, worker_at}
use Rattle.history_frames.specs.Ordinals.{nth_of}
use Rattle.sys_abi.specs.declared.wire.Addfd.{Addfd}

-- at most one of the requests has SEND
abbrev pub SendsOnce : List Event → List ℕ → Type 0
SendsOnce K [] = Unit {0}
SendsOnce K (r ∷ rs) = (is_send K r ≡ true → some_sends K rs ≡ false) × SendsOnce K rs

-- the places differ
abbrev pub Differ : List ℕ → Type 0
Differ [] = Unit {0}
Differ (r ∷ rs) = All (λ (y : ℕ). (y == r) ≡ false) rs × Differ rs

-- each request was put for a call, a worker has one at most, and those that wait for a listed call are its queue
pub record AreAskedAt (K : List Event) (rs : List ℕ) : Type 0 where
  pub below : All (λ (r : ℕ). r < length K) rs
  pub differ : Differ rs
  pub calls : All (λ (r : ℕ). (c : ℕ) × (call_at K r ≡ Some c)) rs
  pub own : (w : ℕ) → request_of K w ≡ find (λ (r : ℕ). worker_at K r == w) rs
  pub alone : All (λ (r : ℕ). request_of K (worker_at K r) ≡ Some r) rs
  pub queues : (c : ℕ) → listed K c ≡ true → queue K c ≡ filter (λ (r : ℕ). is_waiting (id K c) (ask_at K r)) rs

abbrev pub AreAsked : List Event → Type 0
AreAsked K = AreAskedAt K (ask_places K)

-- two calls have different ids
abbrev pub IdsDiffer : List Event → Type 0
IdsDiffer K = (c d : ℕ) → is_call K c ≡ true → is_call K d ≡ true → id K c ≡ id K d → c ≡ d

-- ids count from the first one, a task waits in one call, and at most one request of a call has SEND
pub record IsSound (first : ℕ) (K : List Event) : Type 0 where
  pub first_fits : first < 2 ^ 64
  pub few : calls K < 2 ^ 64
  pub ids : (n c : ℕ) → nth_of notifies K n ≡ Some c → id K c ≡ (first + n) % 2 ^ 64
  pub callers : (c d : ℕ) → listed K c ≡ true → listed K d ≡ true → caller K c ≡ caller K d → c ≡ d
  pub sends : (c : ℕ) → listed K c ≡ true → SendsOnce K (queue K c)

-- the task waits in a listed call, which isn't settled, and of which a request waits
pub record Installs (K : List Event) (e : Event) : Type 0 where
  pub call : ℕ
  pub who : e.who ≡ Task (caller K call)
  pub on : listed K call ≡ true
  pub unsettled : settled K call ≡ false
  pub first : ℕ
  pub rest : List ℕ
  pub queue_is : queue K call ≡ first ∷ rest

-- the worker has no request, and the call waits for an answer
pub record Puts (K : List Event) (e : Event) (a : Addfd) : Type 0 where
  pub worker : ℕ
  pub who : e.who ≡ Worker worker
  pub call : ℕ
  pub call_is : named K a.id ≡ Some call
  pub open_is : answered K call ≡ false
  pub free : request_of K worker ≡ None

-- the worker's request has an answer, or its call isn't listed
pub record Takes (K : List Event) (e : Event) : Type 0 where
  pub worker : ℕ
  pub who : e.who ≡ Worker worker
  pub over : (r : ℕ) → request_of K worker ≡ Some r → is_none (install_of K r) ≡ true → call_listed K (call_at K r) ≡ false

-- a call is entered under the next id, of which there are more, by a task that waits in none
pub record Enters (first : ℕ) (K : List Event) (e : Event) (x : ℕ) : Type 0 where
  pub id_is : x ≡ (first + calls K) % 2 ^ 64
  pub more : calls K + 1 < 2 ^ 64
  pub free : (c : ℕ) → listed K c ≡ true → caller K c ≡ task_name e.who → ⊥

abbrev pub IsStep : ℕ → List Event → Event → What → Type 0
IsStep first K e (Enter nr args (Notify x)) = Enters first K e x
IsStep first K e (AddfdPut a (Ok u)) = Puts K e a
IsStep first K e (AddfdTake a) = Takes K e
IsStep first K e (Install a) = Installs K e
IsStep first K e (Resume back) = (n : Name) × (e.who ≡ Task n)
IsStep first K e (Deliver sig effect) = (n : Name) × (e.who ≡ Task n)
IsStep first K e what = Unit {0}
