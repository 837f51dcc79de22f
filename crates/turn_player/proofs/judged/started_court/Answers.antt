use Rattle.turn_player.proofs.Judgements.{watched_start}
use Rattle.turn_player.proofs.judged.started_court.Goals as goal

pub returns : goal.returns
returns c = record {
  watched = watched_start c.args.policy.now c.args.script c.in_ok-kernel.kernel c.in_ok-watch.watch c.in_ok-kernel.ensures c.in_ok-watch.ensures;
  begun = c.in_ok-kernel.ensures;
}
