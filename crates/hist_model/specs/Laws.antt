-- What holds of every legal history: ids, callers, PIDs, answers and the request count.
use Rattle.std.specs.Prelude.{◌≡◌, ℕ, zero, suc, ◌+◌, ◌≤◌, Bool, true, ◌&&◌, not, if◌then◌else◌, List, [], ◌∷◌, length, Option, Some, None}
use Rattle.hist_model.specs.Kinds.{is_passive, gets_nothing}
use Rattle.hist_model.specs.Look.{Name, is_task}
use Rattle.hist_model.specs.Tasks.{alive, holds}
use Rattle.hist_model.specs.Calls.{listed, fetched, fetches, caller, id, is_call, count, settles}
use Rattle.hist_model.specs.declared.event.Event.{Event}
use Rattle.hist_model.specs.declared.event.Actor.{Actor}
use Rattle.hist_model.specs.declared.event.Actor.TheVariants.{Worker}

-- a task's last own event but Install and Skip
unfoldable pub last_own : List Event → Name → Option ℕ
last_own [] n = None
last_own (e ∷ K) n = if is_task e.who n && not (is_passive e.what) then Some (length K) else last_own K n

-- two listed calls have different ids
abbrev pub IdsDiffer : List Event → Type 0
IdsDiffer K = (c d : ℕ) → listed K c ≡ true → listed K d ≡ true → id K c ≡ id K d → c ≡ d

-- a listed call's task lives, and its last own event is that call
abbrev pub CallsAreLast : List Event → Type 0
CallsAreLast K = (c : ℕ) → listed K c ≡ true → (alive K (caller K c) ≡ true) × (last_own K (caller K c) ≡ Some c)

-- two tasks that are not reaped have different numbers
abbrev pub PidsDiffer : List Event → Type 0
PidsDiffer K = (p t u : ℕ) → holds K p t ≡ true → holds K p u ≡ true → t ≡ u

-- how many events settled a call: sends that answered ok, and installs of SEND requests that gave a number
unfoldable pub answers_to : List Event → ℕ → ℕ
answers_to [] c = 0
answers_to (e ∷ K) c = answers_to K c + (if settles K e c then 1 else 0)

abbrev pub AnsweredOnce : List Event → Type 0
AnsweredOnce K = (c : ℕ) → answers_to K c ≤ 1

-- how many of the places below n pass a test
unfoldable pub count_below : (ℕ → Bool) → ℕ → ℕ
count_below test zero = 0
count_below test (suc n) = count_below test n + (if test n then 1 else 0)

unfoldable pub empty_recvs : List Event → ℕ
empty_recvs [] = 0
empty_recvs (e ∷ K) = empty_recvs K + (if gets_nothing e.what then 1 else 0)

-- the request count
abbrev pub CountIs : List Event → Type 0
CountIs K = count K + empty_recvs K
    ≡ count_below (λ c. listed K c && not (fetched K c)) (length K)
    + count_below (λ c. is_call K c && (not (listed K c) && not (fetched K c))) (length K)

abbrev pub worker_of : Actor → Option ℕ
worker_of (Worker w) = Some w
worker_of _ = None

-- the worker that fetched a call
unfoldable pub fetcher : List Event → ℕ → Option ℕ
fetcher [] c = None
fetcher (e ∷ K) c = if fetches e.what (id K c) && listed K c then worker_of e.who else fetcher K c
