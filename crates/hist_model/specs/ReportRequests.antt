-- The answers that a summary counts: each send that was taken, and each installation that gave the number of a request with SEND.
-- The requests for descriptors of one call wait in a queue: the n-th installation in the call belongs to the n-th of them.
use Rattle.std.specs.Prelude.{ℕ, ◌+◌, Bool, false, ◌&&◌, ◌||◌, if◌then◌else◌, ◌==◌, List, [], ◌∷◌, ◌++◌, Option, Some, None, Ok}
use Rattle.hist_model.specs.Look.{Name, is_place, task_name}
use Rattle.hist_model.specs.Kinds.{gave, has_send_flag, is_sent}
use Rattle.hist_model.specs.Calls.{id}
use Rattle.hist_model.specs.ReportAudit.{call_with_id}
use Rattle.hist_model.specs.ReportCalls.{newest_call, is_inside}
use Rattle.hist_model.specs.declared.event.Event.{Event}
use Rattle.hist_model.specs.declared.event.What.{What}
use Rattle.hist_model.specs.declared.event.What.TheVariants.{AddfdPut, Install}

-- the queue after an installation, which belongs to its first request
abbrev pub without_first : List Bool → List Bool
without_first [] = []
without_first (s ∷ queue) = queue

-- one more step: whether it is a step of the call's task in it, and whether the call is the newest with its id x
abbrev pub requests_step : Bool → Bool → ℕ → What → List Bool → List Bool
requests_step inside named x (Install answer) queue = if inside then without_first queue else queue
requests_step inside named x (AddfdPut asked (Ok u)) queue = if named && (asked.id == x) then queue ++ has_send_flag asked ∷ [] else queue
requests_step inside named x _ queue = queue

-- the requests of the call with id x that task n entered at place c which have no installation yet, the oldest first: each by
-- whether it has SEND
unfoldable pub requests : ℕ → Name → ℕ → List Event → List Bool
requests x n c [] = []
requests x n c (e ∷ K) = requests_step (is_inside n c K e) (is_place (call_with_id x K) c) x e.what (requests x n c K)

-- the first request has SEND
abbrev pub first_has_send : List Bool → Bool
first_has_send [] = false
first_has_send (s ∷ queue) = s

-- after K, what the event installs for its task's newest call belongs to a request with SEND
abbrev pub installs_for_send : List Event → Event → Option ℕ → Bool
installs_for_send K e None = false
installs_for_send K e (Some c) = is_inside (task_name e.who) c K e && first_has_send (requests (id K c) (task_name e.who) c K)

-- after K, the event answers a call: a send that was taken, or an installation for a request with SEND that gave a number
abbrev pub is_answer : List Event → Event → Bool
is_answer K e = is_sent e.what || (gave e.what && installs_for_send K e (newest_call (task_name e.who) K))

-- how many answers were given
unfoldable pub answer_count : List Event → ℕ
answer_count [] = 0
answer_count (e ∷ K) = answer_count K + (if is_answer K e then 1 else 0)
