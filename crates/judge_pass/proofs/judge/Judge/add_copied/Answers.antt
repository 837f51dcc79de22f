use Rattle.judge_pass.proofs.MadeTasks.{made-copied}
use Rattle.judge_pass.proofs.judge.Judge.add_copied.Goals as goal

pub returns : goal.returns
returns c P S K e s history kind =
    made-copied P S K e c.args.self.now s history c.args.parent c.requires.task kind.0 kind.1 c.index.result.now c.index.ensures
    c.push.new.self c.new.result c.new.ensures.group c.new.ensures.call c.new.ensures.entered c.new.ensures.untold c.in_ok-push.ensures.items
    c.copy_group.new.self.rows c.in_ok-copy_group.ensures.rows c.in_ok-copy_group.ensures.made
