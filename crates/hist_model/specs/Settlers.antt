-- Who settled a call.
use Rattle.std.specs.Prelude.{◌≡◌, ℕ, ◌<◌, length, List, Option, Some, None, Result, Ok, true, pos}
use Rattle.hist_model.specs.Look.{Name, event_at, before}
use Rattle.hist_model.specs.Calls.{listed, caller, answers, queue, is_send}
use Rattle.hist_model.specs.Signals.{call_of}
use Rattle.hist_model.specs.Laws.{fetcher, worker_of}
use Rattle.hist_model.specs.Steps.{call_at, install_of, is_first}
use Rattle.hist_model.specs.declared.event.Event.{Event}
use Rattle.hist_model.specs.declared.event.Actor.TheVariants.{Worker, Task}
use Rattle.hist_model.specs.declared.event.What.TheVariants.{Install, Resume, Send}
use Rattle.hist_model.specs.declared.event.Back.{Back}
use Rattle.hist_model.specs.declared.event.Back.TheVariants.{Value}

abbrev pub worker_in : Option Event → Option ℕ
worker_in (Some e) = worker_of e.who
worker_in None = None

-- the request at this place was put for the call, with SEND, by the worker whose session the call's is
pub record IsRequestOf (K : List Event) (c r w : ℕ) : Type 0 where
  pub below : r < length K
  pub for_call : call_at K r ≡ Some c
  pub sends : is_send K r ≡ true
  pub put_by : worker_in (event_at K r) ≡ Some w
  pub session_of : fetcher K c ≡ Some w

-- the next install of the task of this name belongs to the request, which is the oldest without one
-- of the listed call in which the task waits
pub record IsInstallOf (K : List Event) (n : Name) (c r w : ℕ) : Type 0 where
  pub in_call : call_of K n ≡ Some c
  pub on_list : listed K c ≡ true
  pub by_caller : caller K c ≡ n
  pub is_next : is_first (queue K c) r ≡ true
  pub request : IsRequestOf K c r w

-- each install is a step of the task of a listed call, for a request of that call's session
abbrev pub InstallsOwn : List Event → Event → Type 0
InstallsOwn K e = (n : Name) (x : Result ℕ ℕ) → e.who ≡ Task n → e.what ≡ Install x → (c r w : ℕ) × IsInstallOf K n c r w

-- the session's answer to the call, or the number installed for the session's request
pub data Source (K : List Event) (c w : ℕ) : Back → Type 0 where
  sent : (place x : ℕ) (b : Back) (u : Unit {0}) (e : Event) → event_at K place ≡ Some e → e.who ≡ Worker w
      → e.what ≡ Send x b (Ok u) → answers (before K place) e.what c ≡ true → Source K c w b
  installed_for : (r n : ℕ) → IsRequestOf K c r w → install_of K r ≡ Some (Ok n) → Source K c w (Value (pos n))

-- each resume returns what its call's session sent, or the number installed for it
abbrev pub ResumesOwn : List Event → Event → Type 0
ResumesOwn K e = (n : Name) (b : Back) → e.who ≡ Task n → e.what ≡ Resume b
    → (c w : ℕ) × (listed K c ≡ true) × (caller K c ≡ n) × (fetcher K c ≡ Some w) × Source K c w b

-- each resume of a call for one of whose requests a number was installed returns this number
abbrev pub ReturnsInstalled : List Event → Event → Type 0
ReturnsInstalled K e = (n : Name) (b : Back) → e.who ≡ Task n → e.what ≡ Resume b
    → (c r m : ℕ) → call_of K n ≡ Some c → call_at K r ≡ Some c → install_of K r ≡ Some (Ok m) → b ≡ Value (pos m)
