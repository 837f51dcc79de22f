-- What the listener keeps, and the state that it is.
use Rattle.std.specs.Prelude.{◌≡◌, ℕ, ◌+◌, ◌-◌, ◌%◌, ◌<◌, ◌^◌, List, map, Option, Some, None, nat_lt}
use Rattle.std.specs.VecDeque.{deque_len, deque_capacity}
use Rattle.hist_model.specs.Look.{Name}
use Rattle.hist_model.specs.declared.notification.Fetched.{Fetched}
use Rattle.hist_model.specs.declared.notification.Reply.{Reply}
use Rattle.listener.specs.declared.order.Entry.{Entry}
use Rattle.listener.specs.declared.order.Order.{Order}
use Rattle.listener.specs.declared.queue.Queue.{Queue}
use Rattle.listener.specs.declared.requests.Request.{Request as Ask}
use Rattle.listener.specs.State.{Row, State, oldest}

-- one more call in the order of entry takes no memory
pub record HasPlace (order : Order) : Type 0 where
  pub number : order.entered + 1 < 2 ^ 64
  pub place : deque_len order.entries < deque_capacity order.entries

-- how many calls were entered before the one with this id, modulo 2^64
abbrev pub number_of : ℕ → ℕ → ℕ
number_of first id = (id + (2 ^ 64 - first)) % 2 ^ 64

-- a listed call, where the tasks have these names
abbrev pub row : ℕ → ℕ → (ℕ → Name) → Entry → Row
row first fetched names e =
    record { id = (first + e.number) % 2 ^ 64; task = names e.owner.ordinal; fetched = nat_lt e.number fetched; reply = e.reply }

-- the state that a queue is, beside these requests
abbrev pub view : Queue → (ℕ → Name) → List Ask → State
view Q names asks = record {
  first = Q.first;
  entered = Q.order.entered;
  received = Q.received;
  calls = map (row Q.first Q.fetched names) Q.order.entries.items;
  asks = asks;
}

-- one more call takes no memory
abbrev pub HasRoom : Queue → Type 0
HasRoom Q = HasPlace Q.order

-- what was received is the oldest call that wasn't, with its id and its task, while requests were counted
pub record IsReceived (s : State) (f : Fetched) (names : ℕ → Name) : Type 0 where
  pub counted : s.received < s.entered
  pub next : Row
  pub oldest_is : oldest s ≡ Some next
  pub id_is : f.id ≡ next.id
  pub task_is : names f.owner.ordinal ≡ next.task

-- the reply of a call, if there is one
abbrev pub reply_in : Option Row → Option Reply
reply_in (Some r) = r.reply
reply_in None = None
