use Rattle.judge_pass.proofs.HandTests.{as-event}
use Rattle.judge_pass.proofs.IdleWorkers.{memory-refused}
use Rattle.judge_pass.proofs.judge.Judge.answer_memory.Goals as goal

pub returns-in-Ok : goal.returns-in-Ok
returns-in-Ok c pid P S K e s history kind = c.open_memory.ensures pid P S K e s history (rw c.in-Ok.is at kind.0, kind.1)

pub returns-in-Err : goal.returns-in-Err
returns-in-Err c pid P S K e s history kind =
    as-event P S K e _ (rw c.in-Err.is at kind.0) history _ (λ h. memory-refused P S K c.args.worker c.args.self.now s c.requires.worker pid c.in-Err._errno h)
