-- A task's step breaks no clause of an effect or an answer, and may leave its call.
use Rattle.std.proofs.Common.{refl}
use Rattle.judge_pass.proofs.Judging.{judges-left}
use Rattle.judge_pass.proofs.NewestActor.{judges-skip}
use Rattle.judge_pass.proofs.judge.Judge.judge_task.Goals as goal

pub returns-in_ok-left-in-Some : goal.returns-in_ok-left-in-Some
returns-in_ok-left-in-Some c = λ P S K e s history step at opens.
    let mine = rw c.in-Some.is at step in
    judges-left P S K c.take_of_task.new.self e c.in_ok-left-in-Some.left c.unanswered.result (rw mine.who refl)
    (c.in_ok-left-in-Some.ensures.left P S K e s history mine) c.unanswered.ensures
    (c.in_ok-left-in-Some.ensures.stands P S K e s history (mine, at, opens))

pub returns-in-None : goal.returns-in-None
returns-in-None c = λ P S K e s history step at opens. judges-skip P S K e c.args.self.now s history (rw c.in-None.is at step)
