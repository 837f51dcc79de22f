use Rattle.broker_machine.specs.Serving.{IsServed}
use Rattle.handover.specs.Keeping.{AreLedgers}
use Rattle.model_kernel.specs.Kernels.{past}
use Rattle.trials_kernel.proofs.replaced_workers.step_worker_often.Given as goal

abbrev pub invariant-loop : goal.invariant-loop
invariant-loop l = record { served : IsServed l.policy l.machine; ledgers : AreLedgers (past l.machine.kernel) l.ledgers }
