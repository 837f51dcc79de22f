-- What the state behind the lock keeps at the start.
-- By cases on the limit.
use Rattle.std.proofs.Common.{ℕ, Option, Some, None, refl}
use Rattle.hist_model.specs.Legal.{started}
use Rattle.hist_model.specs.declared.policy.Policy.{Policy}
use Rattle.hist_model.specs.declared.script.Script.{Script}
use Rattle.worker_gate.specs.Keeping.{IsKept, IsWithinLimit}
use Rattle.broker_machine.specs.Serving.{IsAt}
use Rattle.broker_machine.specs.declared.machine.Machine.{Machine}

within_start : (limit : Option ℕ) (S : Script) → IsWithinLimit limit (started S)
within_start None S = tt
within_start (Some l) S = ((refl, tt), (tt, tt))

-- the start keeps every limit
pub kept_start : (P : Policy) (S : Script) (limit : Option ℕ) (m : Machine) → IsAt P S (started S) m → IsKept P limit m
kept_start P S limit m a = record { served = a.served; within = rw a.events (within_start limit S) }
