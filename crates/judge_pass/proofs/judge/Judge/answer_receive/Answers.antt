use Rattle.std.proofs.Common.{refl}
use Rattle.judge_pass.proofs.HandTests.{as-event}
use Rattle.judge_pass.proofs.IdleWorkers.{received-nothing}
use Rattle.judge_pass.proofs.judge.Judge.answer_receive.Goals as goal

pub returns-in-Ok : goal.returns-in-Ok
returns-in-Ok c = record {
  stands = λ P S K e s history kind. c.receive.ensures.stands c.in-Ok.notif refl P S K e s history (rw c.in-Ok.is at kind.0, kind.1);
  left = λ P S K e s history is at. c.receive.ensures.left c.in-Ok.notif refl P S K e s history (rw c.in-Ok.is at is) at;
}

pub returns-in-Err : goal.returns-in-Err
returns-in-Err c = record {
  stands = λ P S K e s history kind.
      as-event P S K e _ (rw c.in-Err.is at kind.0) history _ (λ h. received-nothing P S K c.args.number c.args.self.now s c.requires.worker c.in-Err._errno h);
  left = λ P S K e s history is at. rw (is, c.in-Err.is) refl;
}
