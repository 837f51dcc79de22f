-- What the state behind the listener's lock keeps of its history, and what contracts see of it.
use Rattle.std.specs.Prelude.{◌≡◌, ℕ, ◌+◌, ◌≤◌, ◌⊎◌, Bool, true, false, List, ◌∷◌, length, Option, Some, None, ⊤}
use Rattle.hist_model.specs.Histories.{Seen}
use Rattle.hist_model.specs.Legal.{NoSkip, NoWorkerAbove}
use Rattle.hist_model.specs.Look.{Name, ev}
use Rattle.hist_model.specs.declared.event.Actor.{Actor}
use Rattle.hist_model.specs.declared.event.Actor.TheVariants.{Task}
use Rattle.hist_model.specs.declared.event.Event.{Event}
use Rattle.hist_model.specs.declared.event.What.{What}
use Rattle.hist_model.specs.declared.history.Setup.{Setup}
use Rattle.hist_model.specs.declared.policy.Policy.{Policy}
use Rattle.model_kernel.specs.Kernels.{past}
use Rattle.turn_lock.specs.Lists.{Begins}
use Rattle.broker_machine.specs.Serving.{IsServed}
use Rattle.broker_machine.specs.declared.machine.Machine.{Machine}
use Rattle.worker_gate.specs.Replacing.{KeepsUp, every_of}
use Rattle.worker_gate.specs.declared.served.Serving.{Serving}

-- under a limit no event is a Skip, and none is a step of a worker whose number is above it
abbrev pub IsWithinLimit : Option ℕ → List Event → Type 0
IsWithinLimit None K = ⊤
IsWithinLimit (Some limit) K = NoSkip K × NoWorkerAbove limit K

-- under the policy the machine's history is legal and goes on, each of its workers remembers its session of it, and it keeps the limit
pub record IsKept (P : Policy) (limit : Option ℕ) (m : Machine) : Type 0 where
  pub served : IsServed P m
  pub within : IsWithinLimit limit (past m.kernel)

-- so the state keeps its machine, and it keeps its ledgers up, where it has some
abbrev pub IsServing : Serving → Type 0
IsServing s = IsKept s.policy s.limit s.machine × KeepsUp (past s.machine.kernel) s.keeper

-- the policy, the limit, and after how many steps workers are replaced, are as they were
abbrev pub HasSetup : Serving → Serving → Type 0
HasSetup old new = (new.policy ≡ old.policy) × (new.limit ≡ old.limit) × (every_of new.keeper ≡ every_of old.keeper)

-- its policy, script, limit and replacement, and its history
pub record ServedFacts : Type 0 where
  pub setup : Setup
  pub history : Seen

-- the machine keeps the same, and has perhaps gone on by one event
pub record Continues (P : Policy) (limit : Option ℕ) (old new : Machine) : Type 0 where
  pub kept : IsKept P limit new
  pub script : new.kernel.script ≡ old.kernel.script
  pub begins : Begins (past new.kernel) (past old.kernel)
  pub one : length (past new.kernel) ≤ length (past old.kernel) + 1

-- an actor took a step, which is the newest event; or it waited, and the history is as it was
abbrev pub Adds : Actor → Bool → List Event → List Event → Type 0
Adds a true K H = (what : What) × (H ≡ ev a what ∷ K)
Adds a false K H = H ≡ K

-- a task took a step, or nobody did
abbrev pub AddsTask : List Event → List Event → Type 0
AddsTask K H = (H ≡ K) ⊎ ((n : Name) × (what : What) × (H ≡ ev (Task n) what ∷ K))

-- a turn adds one event at most
pub record TakesTurn (old new : ServedFacts) : Type 0 where
  pub setup : new.setup ≡ old.setup
  pub begins : Begins new.history.events old.history.events
  pub one : length new.history.events ≤ length old.history.events + 1
