-- A task's step is no worker's, so the ledgers are as they were.
use Rattle.std.proofs.Common.{refl}
use Rattle.hist_model.specs.declared.event.Actor.TheVariants.{Task}
use Rattle.worker_gate.proofs.Replaced.{tried_other}
use Rattle.worker_gate.proofs.keeper.LedgerKeeper.try_task.Goals as goal

pub returns-clause-keeps : goal.returns-clause-keeps
returns-clause-keeps c = λ found.
    tried_other c.args.policy.now c.args.machine.now c.try_task.new.self (Task _) c.args.self.now.ledgers c.try_task.result refl c.try_task.ensures.done c.try_task.ensures.same (c.requires.keeps found)
