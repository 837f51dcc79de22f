use Rattle.turn_player.proofs.Times.{no_times, one_more}
use Rattle.turn_player.specs.Turns.{served}
use Rattle.turn_player.proofs.serving.serve_often.Goals as goal

pub loop-init : goal.loop-init
loop-init c = record {
  came = no_times (served c.args.policy.now c.args.kernel.now.script c.args.number) c.args.kernel.now c.requires.kernel;
  knows = c.requires.knows;
}

pub loop-preserved : goal.loop-preserved
loop-preserved c = record {
  came = one_more (λ S. served c.args.policy.now S c.args.number) c.args.kernel.now c.loop.kernel c.serve.new.kernel c.loop.counter c.loop.invariant.came c.in_ok-serve.ensures.came;
  knows = c.in_ok-serve.ensures.knows;
}
