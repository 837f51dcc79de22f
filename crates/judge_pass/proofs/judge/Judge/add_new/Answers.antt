use Rattle.judge_pass.proofs.MadeTasks.{made-new}
use Rattle.judge_pass.proofs.judge.Judge.add_new.Goals as goal

pub returns : goal.returns
returns c P S K e s history spawns = made-new P S K e c.args.self.now s history spawns c.push.new.self c.new.result c.new.ensures.group c.new.ensures.call c.new.ensures.entered c.new.ensures.untold c.in_ok-push.ensures.items
