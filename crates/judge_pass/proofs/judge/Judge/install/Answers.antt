use Rattle.judge_pass.proofs.Installed.{install-leaves}
use Rattle.judge_pass.proofs.judge.Judge.install.Goals as goal

pub returns-clause-left : goal.returns-clause-left
returns-clause-left c P S K e s history step =
    install-leaves P S K e c.args.self.now s c.args.task c.requires.task c.args.answer.now step c.index.result.now c.index.ensures _
    (c.left.ensures P S _ (c.in_ok-note_installed.ensures.stands P S K e s history step))
