-- The ledgers from which workers are replaced in a history.
use Rattle.std.specs.Prelude.{ℕ, ◌+◌, ◌%◌, ◌/◌, Bool, false, true, ◌&&◌, not, if◌then◌else◌, ◌==◌, List, [], ◌∷◌, ◌++◌}
use Rattle.std.specs.Prelude.{length, Option, Some, None}
use Rattle.hist_model.specs.Kinds.{skips}
use Rattle.hist_model.specs.declared.event.Actor.{Actor}
use Rattle.hist_model.specs.declared.event.Actor.TheVariants.{Worker}
use Rattle.hist_model.specs.declared.event.Event.{Event}
use Rattle.handover.specs.Ledgers.{ledger_of}

-- a ledger from which a worker is replaced: the place of the worker's last step, its number, and the text
pub record Handed : Type 0 where
  pub place : ℕ
  pub worker : ℕ
  pub text : List ℕ

-- the number of the worker that an actor is, if it is one
abbrev pub worker_number : Actor → Option ℕ
worker_number (Worker w) = Some w
worker_number _ = None

abbrev pub is_some_worker : Option ℕ → Bool
is_some_worker None = false
is_some_worker (Some w) = true

-- the event is a step of a worker
abbrev pub is_worker_step : Event → Bool
is_worker_step e = is_some_worker (worker_number e.who) && not (skips e.what)

-- how many steps workers took
unfoldable pub worker_steps : List Event → ℕ
worker_steps [] = 0
worker_steps (e ∷ K) = if is_worker_step e then worker_steps K + 1 else worker_steps K

-- the k-th ledger, where the newest event is a worker's step: that before the step for an odd k, and that after it for an even one
abbrev pub handed_at : ℕ → Option ℕ → Event → List Event → List Handed
handed_at k (Some w) e K = record { place = length K; worker = w; text = ledger_of (if k % 2 == 1 then K else e ∷ K) w } ∷ []
handed_at k None e K = []

-- where the number of a worker's step is a multiple, there is a ledger
abbrev pub handed_after : ℕ → ℕ → Event → List Event → List Handed
handed_after every steps e K = if is_worker_step e && (steps % every == 0) then handed_at (steps / every) (worker_number e.who) e K else []

-- the ledgers of a history whose workers are replaced after each so many of their steps, in order
unfoldable pub handed : ℕ → List Event → List Handed
handed every [] = []
handed every (e ∷ K) = handed every K ++ handed_after every (worker_steps (e ∷ K)) e K
