-- What is kept of requests for descriptors while the events are gone through: those of each call that have no installation yet, the oldest
-- first, each by whether it has SEND.
use Rattle.std.specs.Prelude.{◌≡◌, ℕ, ◌+◌, Bool, true, false, ◌&&◌, if◌then◌else◌, List, [], ◌∷◌, ◌++◌, Option, Some, None, Ok, count_by}
use Rattle.std.specs.BTreeMap.{get}
use Rattle.std.specs.Global.{Global}
use Rattle.std.specs.Ordering.{nat_cmp}
use Rattle.std.specs.declared.collections.VecDeque.{VecDeque}
use Rattle.hist_model.specs.Calls.{caller, id}
use Rattle.hist_model.specs.Kinds.{gave, has_send_flag, is_sent}
use Rattle.hist_model.specs.Look.{is_place, task_name}
use Rattle.hist_model.specs.ReportCalls.{is_pending, newest_call}
use Rattle.hist_model.specs.ReportRequests.{answer_count, first_has_send, installs_for_send, requests, without_first}
use Rattle.hist_model.specs.declared.event.Event.{Event}
use Rattle.hist_model.specs.declared.event.What.{What}
use Rattle.hist_model.specs.declared.event.What.TheVariants.{AddfdPut, Install}
use Rattle.audit_log.specs.ByPlace.{ByPlace}
use Rattle.audit_log.specs.declared.records.CallRecord.{CallRecord}
use Rattle.audit_log.specs.declared.requests.PendingRequests.{PendingRequests}

-- the items of a queue that was found, or else none
abbrev pub items_or_none : Option (VecDeque Bool Global) → List Bool
items_or_none (Some q) = q.items
items_or_none None = []

-- the requests of the call at place c
abbrev pub queue_in : PendingRequests → ℕ → List Bool
queue_in r c = items_or_none (get nat_cmp r.queues c)

-- at each place of these events the requests are those of its event, as if it entered a call
abbrev pub TellsRequests : List Event → (ℕ → List Bool) → Type 0
TellsRequests K queue = (c : ℕ) → queue c ≡ requests (id K c) (caller K c) c K

-- the call at a place, if there is one, while nothing came of it
abbrev pub pending_call : Option ℕ → (ℕ → CallRecord) → Option ℕ
pending_call None kept = None
pending_call (Some c) kept = if is_pending (kept c).outcome then Some c else None

-- the step installs a descriptor for its task, whether or not it gets one
abbrev pub installs : What → Bool
installs (Install answer) = true
installs _ = false

-- this call, where the step installs
abbrev pub for_install : What → Option ℕ → Option ℕ
for_install a call = if installs a then call else None

-- the first request of a call has SEND, if there is a call
abbrev pub first_at : Option ℕ → (ℕ → List Bool) → Bool
first_at None queue = false
first_at (Some c) queue = first_has_send (queue c)

-- the call that the step answers by an installation, where an installation is one for this call
abbrev pub answered_call : What → Option ℕ → (ℕ → List Bool) → Option ℕ
answered_call a call queue = if gave a && first_at call queue then call else None

-- after K, the call that the event answers by an installation
abbrev pub installed_for : List Event → Event → Option ℕ
installed_for K e = if gave e.what && installs_for_send K e (newest_call (task_name e.who) K) then newest_call (task_name e.who) K else None

-- the calls that are answered so, by the place of the event that answers them
abbrev pub TellsInstalled : List Event → (ℕ → Option ℕ) → Type 0
TellsInstalled H calls = ByPlace installed_for H calls

-- so many calls are answered so: each other answer was sent and taken
abbrev pub AnswersAre : List Event → ℕ → Type 0
AnswersAre H n = answer_count H ≡ count_by (λ e. is_sent e.what) H + n

-- the requests at place c with one more step, where an installation is one for this call, by the call that each id names
abbrev pub queued : What → Option ℕ → (ℕ → Option ℕ) → ℕ → List Bool → List Bool
queued (Install answer) call named c queue = if is_place call c then without_first queue else queue
queued (AddfdPut asked (Ok u)) call named c queue = if is_place (named asked.id) c then queue ++ has_send_flag asked ∷ [] else queue
queued _ call named c queue = queue
