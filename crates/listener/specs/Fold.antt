-- The state that the definitions give a history.
use Rattle.std.specs.Prelude.{◌≡◌, ℕ, Bool, true, false, ◌&&◌, not, if◌then◌else◌, List, [], ◌∷◌, ◌++◌, length, map, filter}
use Rattle.std.specs.Prelude.{Option, Some, None, Ok}
use Rattle.hist_model.specs.Look.{event_at, is_worker}
use Rattle.hist_model.specs.Kinds.{notifies}
use Rattle.hist_model.specs.Calls.{caller, id, fetched, settled, queue, some_sends, unlists, calls, recvs}
use Rattle.hist_model.specs.Laws.{worker_of}
use Rattle.hist_model.specs.Files.{asked_in}
use Rattle.hist_model.specs.Steps.{reply, install_of}
use Rattle.hist_model.specs.declared.event.What.{What}
use Rattle.hist_model.specs.declared.event.What.TheVariants.{AddfdPut, AddfdTake}
use Rattle.hist_model.specs.declared.event.Back.{Back}
use Rattle.hist_model.specs.declared.event.Event.{Event}
use Rattle.hist_model.specs.declared.notification.Reply.{Reply}
use Rattle.hist_model.specs.declared.notification.Reply.TheVariants.{Installing}
use Rattle.listener.specs.declared.requests.Request.{Request as Ask}
use Rattle.listener.specs.State.{Row, State, reply_of}

-- the places of the listed calls, the oldest first
unfoldable pub places : List Event → List ℕ
places [] = []
places (e ∷ K) = filter (λ c. not (unlists e (caller K c))) (places K) ++ (if notifies e.what then length K ∷ [] else [])

-- the reply of a call that was settled or not, and asked for with SEND or not
abbrev pub reply_by : Bool → Bool → Back → Option Reply
reply_by true asked b = Some (reply_of b)
reply_by false true b = Some Installing
reply_by false false b = None

-- the row of the call at a place
abbrev pub row_at : List Event → ℕ → Row
row_at K c =
    record { id = id K c; task = caller K c; fetched = fetched K c; reply = reply_by (settled K c) (some_sends K (queue K c)) (reply K c) }

-- the rows of the listed calls
unfoldable pub rows : List Event → List Row
rows K = map (row_at K) (places K)

-- the number of a worker, if an actor is one
abbrev pub number_or : Option ℕ → ℕ
number_or (Some w) = w
number_or None = 0

-- the worker whose step an event is
abbrev pub worker_in : Option Event → ℕ
worker_in (Some e) = number_or (worker_of e.who)
worker_in None = 0

-- the worker whose step stands at a place
abbrev pub worker_at : List Event → ℕ → ℕ
worker_at K r = worker_in (event_at K r)

-- a request is put
abbrev pub is_put : What → Bool
is_put (AddfdPut a (Ok u)) = true
is_put _ = false

-- a worker takes what came of its request
abbrev pub is_take : What → Bool
is_take (AddfdTake a) = true
is_take _ = false

-- the event is a take of this worker
abbrev pub takes : Event → ℕ → Bool
takes e w = is_take e.what && is_worker e.who w

-- the places of the requests that are put and not taken, the oldest first
unfoldable pub ask_places : List Event → List ℕ
ask_places [] = []
ask_places (e ∷ K) = filter (λ r. not (takes e (worker_at K r))) (ask_places K) ++ (if is_put e.what then length K ∷ [] else [])

-- the request that was put at a place
abbrev pub ask_at : List Event → ℕ → Ask
ask_at K r = record { worker = worker_at K r; asked = asked_in (event_at K r); result = install_of K r }

-- the requests that were put and not taken
unfoldable pub asks : List Event → List Ask
asks K = map (ask_at K) (ask_places K)

-- the state is that of the history
pub record Looks (first : ℕ) (K : List Event) (s : State) : Type 0 where
  pub first_is : s.first ≡ first
  pub entered_is : s.entered ≡ calls K
  pub received_is : s.received ≡ recvs K
  pub calls_are : s.calls ≡ rows K
  pub asks_are : s.asks ≡ asks K
