-- What a task's step leaves of the ledgers.
-- By what an event of no worker leaves of them, and by cases on whether it was made.
use Rattle.std.proofs.Common.{Bool, true, false, refl}
use Rattle.hist_model.specs.Look.{Name}
use Rattle.hist_model.specs.declared.event.Actor.TheVariants.{Task}
use Rattle.hist_model.specs.declared.policy.Policy.{Policy}
use Rattle.model_kernel.specs.Kernels.{past}
use Rattle.broker_machine.specs.Serving.{Tries}
use Rattle.broker_machine.specs.declared.machine.Machine.{Machine}
use Rattle.handover.proofs.Kept.{other_ledgers}
use Rattle.handover.specs.Keeping.{AreLedgers}
use Rattle.handover.specs.declared.ledgers.Ledgers.{Ledgers}

pub task_kept : (P : Policy) (old new : Machine) (l : Ledgers) (n : Name) (b : Bool) → Tries P old (Task n) b new → AreLedgers (past old.kernel) l → AreLedgers (past new.kernel) l
task_kept P old new l n true t kept = rw t.0.events (other_ledgers _ (past old.kernel) l refl kept)
task_kept P old new l n false t kept = rw t.0.events kept
