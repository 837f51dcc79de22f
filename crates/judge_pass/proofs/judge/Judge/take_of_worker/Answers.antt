use Rattle.judge_pass.proofs.IdleWorkers.{alone-kind, alone-leaves}
use Rattle.judge_pass.proofs.judge.Judge.take_of_worker.Goals as goal

pub returns-in-Recv : goal.returns-in-Recv
returns-in-Recv c = record {
  stands = λ P S K e s history kind. c.answer_receive.ensures.stands P S K e s history (rw c.in-Recv.is at kind.1, kind.2);
  left = λ P S K e s history is at. c.answer_receive.ensures.left P S K e s history (rw c.in-Recv.is at is) at;
}

pub returns-in-LetGo : goal.returns-in-LetGo
returns-in-LetGo c = record {
  stands = λ P S K e s history kind. c.let_go.ensures.stands P S K e s history (rw (c.in-LetGo.is, ← c.from.ensures) at kind.1, kind.2);
  left = λ P S K e s history is at. c.let_go.ensures.left P S K e s history (rw (c.in-LetGo.is, ← c.from.ensures) at is) at;
}

pub returns-in_ok-move_alone-in_default : goal.returns-in_ok-move_alone-in_default
returns-in_ok-move_alone-in_default c = record {
  stands = λ P S K e s history kind. c.in_ok-move_alone-in_default.ensures P S K e s history (kind.0, rw (← c.from-in_default.ensures) at kind.1, kind.2, kind.3);
  left = λ P S K e s history is at. rw is (alone-leaves K c.args.number c.args.what.now (alone-kind c.args.what.now c.in_default.not-Recv c.in_default.not-LetGo c.requires.kind));
}
