use Rattle.judge_pass.proofs.MadeTasks.{made-shared}
use Rattle.judge_pass.proofs.judge.Judge.add_shared.Goals as goal

pub returns : goal.returns
returns c P S K e s history kind =
    made-shared P S K e c.args.self.now s history c.args.parent c.requires.task kind.0 kind.1 c.index.result.now c.index.ensures
    c.push.new.self c.new.result c.new.ensures.group c.new.ensures.call c.new.ensures.entered c.new.ensures.untold c.in_ok-push.ensures.items
