use Rattle.turn_player.proofs.Judging.{played_no_times, played_once_more, served_grows}
use Rattle.turn_player.specs.Turns.{served}
use Rattle.turn_player.proofs.judged.Court.serve_often.Goals as goal

pub loop-init : goal.loop-init
loop-init c = record {
  played = played_no_times c.args.policy.now (served c.args.policy.now c.args.self.now.kernel.script c.args.number) c.args.self.now c.requires.watched;
  knows = c.requires.knows;
}

pub loop-preserved : goal.loop-preserved
loop-preserved c = record {
  played = played_once_more c.args.policy.now (λ S. served c.args.policy.now S c.args.number) c.args.self.now c.loop.self c.serve.new.self c.loop.counter
      (served_grows c.args.policy.now c.args.self.now.kernel.script c.args.number) c.loop.invariant.played c.in_ok-serve.ensures.played;
  knows = c.in_ok-serve.ensures.knows;
}
