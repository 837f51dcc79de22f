use Rattle.judge_pass.proofs.judge.Judge.settle_where_taken.Goals as goal

pub returns-in-Ok : goal.returns-in-Ok
returns-in-Ok c = rw c.in-Ok.is c.settle.ensures
