-- Which histories a listener stands for, and which events are its own.
use Rattle.std.specs.Prelude.{◌≡◌, ℕ, ◌<◌, true, false, List, [], ◌∷◌, Option, Some, None, Result, Ok, Err, ℤ}
use Rattle.hist_model.specs.Look.{Name, event_at}
use Rattle.hist_model.specs.Kinds.{leaves}
use Rattle.hist_model.specs.Calls.{listed, caller, id, named, settled, queue}
use Rattle.hist_model.specs.Files.{asked_in}
use Rattle.hist_model.specs.Signals.{call_of}
use Rattle.hist_model.specs.Steps.{reply, oldest_unfetched}
use Rattle.hist_model.specs.declared.event.Actor.TheVariants.{Task}
use Rattle.hist_model.specs.declared.event.Back.{Back}
use Rattle.hist_model.specs.declared.event.Entered.TheVariants.{Notify}
use Rattle.hist_model.specs.declared.event.Event.{Event}
use Rattle.hist_model.specs.declared.event.What.{What}
use Rattle.hist_model.specs.declared.event.What.TheVariants.{Enter, Recv, Send, AddfdPut, AddfdTake, Install, Resume, Deliver, Close, Skip}
use Rattle.hist_model.specs.declared.notification.Fetched.{Fetched}
use Rattle.hist_model.specs.declared.request.TaskRef.{TaskRef}
use Rattle.history_frames.specs.Ordinals.{tasks_made, task_name_of}
use Rattle.sys_abi.specs.declared.wire.Addfd.{Addfd}
use Rattle.sys_abi.specs.declared.wire.Notif.{Notif}
use Rattle.listener.specs.Fold.{Looks}
use Rattle.listener.specs.Listeners.{view}
use Rattle.listener.specs.Sound.{IsSound, AreAsked}
use Rattle.listener.specs.declared.listener.Listener.{Listener}
use Rattle.listener.specs.declared.listener.TakeError.{TakeError}
use Rattle.listener.specs.declared.listener.TakeError.TheVariants.{Pending, Fault}

-- the tasks that were made have these names
abbrev pub AreNames : List Event → (ℕ → Name) → Type 0
AreNames K names = (o : ℕ) → o < tasks_made K → names o ≡ task_name_of K o

-- the listener is the state of the history, with ids from the first one on
pub record StandsFor (first : ℕ) (K : List Event) (L : Listener) : Type 0 where
  pub looks : (names : ℕ → Name) → AreNames K names → Looks first K (view L names)
  pub sound : IsSound first K
  pub asked : AreAsked K

-- ---- what it tells

-- the call is listed under this id
pub record IsListedAs (K : List Event) (c x : ℕ) : Type 0 where
  pub on : listed K c ≡ true
  pub id_is : id K c ≡ x

-- the call was settled and returns this, or it wasn't settled
abbrev pub IsSettledBy : List Event → ℕ → Option Back → Type 0
IsSettledBy K c (Some back) = (settled K c ≡ true) × (reply K c ≡ back)
IsSettledBy K c None = settled K c ≡ false

-- it is the oldest call that wasn't fetched, with its id and its task, which was made
pub record IsNext (K : List Event) (f : Fetched) : Type 0 where
  pub place : ℕ
  pub oldest : oldest_unfetched K ≡ Some place
  pub id_is : f.id ≡ id K place
  pub made : f.owner.ordinal < tasks_made K
  pub owner_is : task_name_of K f.owner.ordinal ≡ caller K place

-- the task of this ordinal, which was made, is in the listed call that the id names
pub record IsCaller (K : List Event) (x o : ℕ) : Type 0 where
  pub place : ℕ
  pub named_is : named K x ≡ Some place
  pub made : o < tasks_made K
  pub name_is : task_name_of K o ≡ caller K place

-- what the oldest of these requests asks for
abbrev pub oldest_in : List Event → List ℕ → Option Addfd
oldest_in K [] = None
oldest_in K (r ∷ rs) = Some (asked_in (event_at K r))

-- the step of a worker that was told this
abbrev pub take_of : Result ℕ TakeError → What
take_of (Ok n) = AddfdTake (Ok n)
take_of (Err (Fault errno)) = AddfdTake (Err errno)
take_of (Err Pending) = Skip

-- ---- events

-- the event receives the notification that has this id
pub record IsReceipt (e : Event) (x : ℕ) : Type 0 where
  pub notif : Notif
  pub is : e.what ≡ Recv (Ok notif)
  pub id_is : notif.id ≡ x

-- the event enters a call of this task, which waits in none, with this id
pub record IsEntry (K : List Event) (e : Event) (t : TaskRef) (x : ℕ) : Type 0 where
  pub made : t.ordinal < tasks_made K
  pub who : e.who ≡ Task (task_name_of K t.ordinal)
  pub nr : ℤ
  pub args : List ℕ
  pub is : e.what ≡ Enter nr args (Notify x)
  pub free : call_of K (task_name_of K t.ordinal) ≡ None

-- the event installs, with this answer, what the oldest request of the call asks for, which isn't settled
pub record IsInstall (K : List Event) (e : Event) (c : ℕ) (asked : Addfd) (answer : Result ℕ ℕ) : Type 0 where
  pub who : e.who ≡ Task (caller K c)
  pub what_is : e.what ≡ Install answer
  pub unsettled : settled K c ≡ false
  pub oldest_is : oldest_in K (queue K c) ≡ Some asked

-- the event takes the call that has this id off the list: its task resumes, or has a delivery in it
pub record IsLeaving (K : List Event) (e : Event) (x : ℕ) : Type 0 where
  pub name : Name
  pub who : e.who ≡ Task name
  pub place : ℕ
  pub call_is : call_of K name ≡ Some place
  pub id_is : id K place ≡ x
  pub is : leaves e.what ≡ true

-- the event is of a task that waits in no listed call
pub record IsOutside (K : List Event) (e : Event) : Type 0 where
  pub name : Name
  pub who : e.who ≡ Task name
  pub none : call_of K name ≡ None

-- the step of an event changes no listed call and no request
abbrev pub IsOtherStep : List Event → Event → What → Type 0
IsOtherStep K e (Enter nr args (Notify x)) = ⊥
IsOtherStep K e (Recv answer) = ⊥
IsOtherStep K e (Send x back (Ok u)) = ⊥
IsOtherStep K e (AddfdPut asked (Ok u)) = ⊥
IsOtherStep K e (AddfdTake answer) = ⊥
IsOtherStep K e (Install answer) = ⊥
IsOtherStep K e (Resume back) = IsOutside K e
IsOtherStep K e (Deliver sig effect) = IsOutside K e
IsOtherStep K e Close = ⊥
IsOtherStep K e what = Unit {0}

abbrev pub IsOther : List Event → Event → Type 0
IsOther K e = IsOtherStep K e e.what
