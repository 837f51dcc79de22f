-- States of calls, their ids and the request count (seccomp_unotify(2)).
use Rattle.std.specs.Prelude.{ℕ, ◌+◌, ◌-◌, Bool, false, ◌&&◌, ◌||◌, not, if◌then◌else◌, ◌==◌, List, [], ◌∷◌, length, Option}
use Rattle.std.specs.Prelude.{Some, None, Ok, ◌++◌}
use Rattle.hist_model.specs.Kinds.{notifies, leaves, closes, is_install, gave, has_send, receives}
use Rattle.hist_model.specs.Look.{Name, is_task, task_name, event_at, oldest, is_place}
use Rattle.hist_model.specs.declared.event.Event.{Event}
use Rattle.hist_model.specs.declared.event.What.{What}
use Rattle.hist_model.specs.declared.event.What.TheVariants.{Enter, Recv, Send, AddfdPut}
use Rattle.hist_model.specs.declared.event.Entered.TheVariants.{Notify}
use Rattle.hist_model.specs.declared.notification.State.{State}
use Rattle.hist_model.specs.declared.notification.State.TheVariants.{Unfetched, Fetched, Answered}

abbrev pub notify_id : What → ℕ
notify_id (Enter nr args (Notify id)) = id
notify_id _ = 0

abbrev pub actor_in : Option Event → Name
actor_in (Some e) = task_name e.who
actor_in None = []

abbrev pub id_in : Option Event → ℕ
id_in (Some e) = notify_id e.what
id_in None = 0

abbrev pub notifies_in : Option Event → Bool
notifies_in (Some e) = notifies e.what
notifies_in None = false

-- a call's task, and its id
abbrev pub caller : List Event → ℕ → Name
caller K c = actor_in (event_at K c)

abbrev pub id : List Event → ℕ → ℕ
id K c = id_in (event_at K c)

abbrev pub is_call : List Event → ℕ → Bool
is_call K c = notifies_in (event_at K c)

-- the event takes the call of this task off the list
abbrev pub unlists : Event → Name → Bool
unlists e n = closes e.what || (leaves e.what && is_task e.who n)

unfoldable pub listed : List Event → ℕ → Bool
listed [] c = false
listed (e ∷ K) c = if c == length K then notifies e.what else (listed K c && not (unlists e (caller K c)))

-- the step fetches an id
abbrev pub fetches : What → ℕ → Bool
fetches (Recv (Ok notif)) x = notif.id == x
fetches _ x = false

unfoldable pub fetched : List Event → ℕ → Bool
fetched [] c = false
fetched (e ∷ K) c = (fetches e.what (id K c) && listed K c) || fetched K c

-- the oldest listed call with this id
unfoldable pub named : List Event → ℕ → Option ℕ
named K x = oldest (λ c. listed K c && (id K c == x)) (length K)

-- after K, the step answers this call
abbrev pub answers : List Event → What → ℕ → Bool
answers K (Send x back (Ok u)) c = is_place (named K x) c
answers K _ c = false

-- after K, the step queues a request for this call
abbrev pub puts_to : List Event → What → ℕ → Bool
puts_to K (AddfdPut asked (Ok u)) c = is_place (named K asked.id) c
puts_to K _ c = false

-- after K, the event installs for this call
abbrev pub installs_for : List Event → Event → ℕ → Bool
installs_for K e c = is_install e.what && (is_task e.who (caller K c) && listed K c)

abbrev pub rest_of : List ℕ → List ℕ
rest_of [] = []
rest_of (r ∷ rs) = rs

-- the places of the requests of a call that have no Install yet, the oldest first: each Install belongs to the first
unfoldable pub queue : List Event → ℕ → List ℕ
queue [] c = []
queue (e ∷ K) c = if puts_to K e.what c then queue K c ++ length K ∷ [] else (if installs_for K e c then rest_of (queue K c) else queue K c)

abbrev pub has_send_in : Option Event → Bool
has_send_in (Some e) = has_send e.what
has_send_in None = false

abbrev pub is_send : List Event → ℕ → Bool
is_send K r = has_send_in (event_at K r)

abbrev pub first_sends : List Event → List ℕ → Bool
first_sends K [] = false
first_sends K (r ∷ rs) = is_send K r

abbrev pub some_sends : List Event → List ℕ → Bool
some_sends K [] = false
some_sends K (r ∷ rs) = is_send K r || some_sends K rs

-- after K, the event settles the call: a Send that answered ok, or an Install of a SEND request that gave a number
abbrev pub settles : List Event → Event → ℕ → Bool
settles K e c = answers K e.what c || (installs_for K e c && (gave e.what && first_sends K (queue K c)))

unfoldable pub settled : List Event → ℕ → Bool
settled [] c = false
settled (e ∷ K) c = settles K e c || settled K c

abbrev pub answered : List Event → ℕ → Bool
answered K c = settled K c || some_sends K (queue K c)

abbrev pub waiting : List Event → ℕ → Bool
waiting K c = listed K c && (fetched K c && not (answered K c))

-- how far a listed call has come
abbrev pub state : List Event → ℕ → State
state K c = if not (fetched K c) then Unfetched else (if answered K c then Answered else Fetched)

-- the same of the call at a place, where there is one
abbrev pub state_at : List Event → Option ℕ → Option State
state_at K (Some c) = Some (state K c)
state_at K None = None

-- the number of calls, and of receives
unfoldable pub calls : List Event → ℕ
calls [] = 0
calls (e ∷ K) = calls K + (if notifies e.what then 1 else 0)

unfoldable pub recvs : List Event → ℕ
recvs [] = 0
recvs (e ∷ K) = recvs K + (if receives e.what then 1 else 0)

abbrev pub count : List Event → ℕ
count K = calls K - recvs K
