use Rattle.turn_player.proofs.Times.{no_times, one_more}
use Rattle.turn_player.specs.Turns.{stepped}
use Rattle.turn_player.proofs.turns.step_often.Goals as goal

pub loop-init : goal.loop-init
loop-init c = no_times (stepped c.args.kernel.now.script c.args.name.now) c.args.kernel.now c.requires

pub loop-preserved : goal.loop-preserved
loop-preserved c =
    one_more (λ S. stepped S c.args.name.now) c.args.kernel.now c.loop.kernel c.step_task.new.kernel c.loop.counter c.loop.invariant c.in_ok-step_task.ensures
