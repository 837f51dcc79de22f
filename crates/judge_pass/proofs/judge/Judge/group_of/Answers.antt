-- The group is that of the task that holds the PID.
use Rattle.judge_pass.proofs.HandTests.{holders-group}
use Rattle.judge_pass.proofs.judge.Judge.group_of.Goals as goal

pub returns-in-Some-clause-group : goal.returns-in-Some-clause-group
returns-in-Some-clause-group c P S K pid s holds = holders-group P S K c.args.self.now c.args.task c.in-Some.task c.index.result.now pid s holds c.in-Some.is c.index.ensures
