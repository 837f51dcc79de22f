-- Requests for descriptors, in the order in which they were put.
use Rattle.std.specs.Prelude.{◌≡◌, ℕ, ◌≤◌, Bool, true, ◌&&◌, not, ◌==◌, nat_le, List, [], ◌∷◌, filter, None, is_none}
use Rattle.std.specs.List.{list_any, list_all}
use Rattle.sys_abi.specs.declared.wire.Addfd.{Addfd}
use Rattle.listener.specs.declared.requests.Request.{Request}

-- the request is this worker's
abbrev pub is_of : ℕ → Request → Bool
is_of w q = q.worker == w

-- it names this id, and has no result
abbrev pub is_waiting : ℕ → Request → Bool
is_waiting x q = (q.asked.id == x) && is_none q.result

abbrev pub has_request : List Request → ℕ → Bool
has_request qs w = list_any (is_of w) qs

-- no worker has two requests
abbrev pub are_apart : List Request → Bool
are_apart [] = true
are_apart (q ∷ qs) = not (has_request qs q.worker) && are_apart qs

-- workers are numbered from 0 to 16
abbrev pub are_workers : List Request → Bool
are_workers qs = list_all (λ q. nat_le q.worker 16) qs

-- what holds of the requests that are kept, and of the room for them
pub record AreKept (qs : List Request) (capacity : ℕ) : Type 0 where
  pub apart : are_apart qs ≡ true
  pub workers : are_workers qs ≡ true
  pub room : 17 ≤ capacity

-- the requests for an id that have no result, the oldest first
abbrev pub waiting : ℕ → List Request → List Request
waiting x qs = filter (is_waiting x) qs

-- a request that a worker puts
abbrev pub new_request : ℕ → Addfd → Request
new_request w asked = record { worker = w; asked = asked; result = None }

-- the requests of the other workers
abbrev pub without : ℕ → List Request → List Request
without w qs = filter (λ q. not (is_of w q)) qs
