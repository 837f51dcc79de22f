use Rattle.judge_pass.proofs.HandTests.{as-event}
use Rattle.judge_pass.proofs.IdleWorkers.{not-valid}
use Rattle.judge_pass.proofs.judge.Judge.answer_check.Goals as goal

pub returns-in-Ok : goal.returns-in-Ok
returns-in-Ok c P S K e s history kind = c.check.ensures P S K e s history (rw c.in-Ok.is at kind)

pub returns-in-Err : goal.returns-in-Err
returns-in-Err c P S K e s history kind =
    as-event P S K e _ (rw c.in-Err.is at kind) history _ (λ h. not-valid P S K c.args.worker c.args.self.now s c.requires.worker c.args.id c.in-Err._errno h)
