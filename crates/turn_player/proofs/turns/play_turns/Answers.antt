-- Before the first line no worker has a session.
use Rattle.turn_player.proofs.Lines.{knows_started}
use Rattle.turn_player.proofs.turns.play_turns.Goals as goal

pub take_turns-requires-clause-knows : goal.take_turns-requires-clause-knows
take_turns-requires-clause-knows c =
    let workers = c.in_ok-workers.workers.items in
    knows_started c.args.policy.now c.args.script c.in_ok-kernel.kernel c.args.turns.now workers c.in_ok-kernel.ensures (rw (← c.script.view_is) (c.in_ok-workers.ensures.idle c.args.policy.now))
