use Rattle.turn_player.proofs.Judging.{played_no_times, played_once_more, task_grows}
use Rattle.turn_player.specs.Turns.{stepped}
use Rattle.turn_player.proofs.judged.Court.step_often.Goals as goal

pub loop-init : goal.loop-init
loop-init c = played_no_times c.args.policy.now (stepped c.args.self.now.kernel.script c.args.name.now) c.args.self.now c.requires.watched

pub loop-preserved : goal.loop-preserved
loop-preserved c =
    played_once_more c.args.policy.now (λ S. stepped S c.args.name.now) c.args.self.now c.loop.self c.step.new.self c.loop.counter (task_grows c.args.self.now.kernel.script c.args.name.now)
    c.loop.invariant c.in_ok-step.ensures
