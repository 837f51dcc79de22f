use Rattle.std.proofs.Common.{◌∙◌, ap}
use Rattle.judge_pass.proofs.Rows.{same-item}
use Rattle.judge_pass.proofs.TaskEvents.{left-call, left-none}
use Rattle.judge_pass.specs.declared.task_table.Task.{Task}
use Rattle.judge_pass.proofs.judge.Judge.leave.Goals as goal

pub returns-in-Some : goal.returns-in-Some
returns-in-Some c P S K e s history kind =
    let same = same-item c.args.self.now.tasks.items c.args.task c.index_mut-in-Some.result.now c.index.result.now c.requires.task c.index_mut-in-Some.ensures.value c.index.ensures in
    left-call P S K e c.args.self.now s history c.args.task c.requires.task kind.0 kind.1 c.index_mut-in-Some.result.now c.index_mut-in-Some.ensures.value
    c.in-Some.call (ap (λ (t : Task). t.call) same ∙ c.in-Some.is) c.index_mut.result.now c.index_mut.ensures.value

pub returns-in_default : goal.returns-in_default
returns-in_default c P S K e s history kind = left-none P S K e c.args.self.now s history c.args.task c.requires.task kind.0 kind.1 c.index.result.now c.index.ensures c.in_default.is
