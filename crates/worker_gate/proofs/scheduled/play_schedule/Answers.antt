-- Each turn leaves what was left to come to, and where the schedule is over that is the history.
use Rattle.std.proofs.Common.{sym, ◌∙◌}
use Rattle.turn_lock.proofs.Lists.{begins_self, begins_trans}
use Rattle.worker_gate.proofs.Schedules.{over_played}
use Rattle.worker_gate.proofs.scheduled.play_schedule.Goals as goal

pub loop-play-init : goal.loop-play-init
loop-play-init g c = record {
  own = c.requires.own;
  begins = begins_self c.args.pass.now.seen;
  place = c.start.ensures.place c.args.lock.now.setup c.args.pass.now.seen;
  rest = c.start.ensures.rest c.args.lock.now.setup c.args.pass.now.seen;
}

pub returns-in_err-take_turn-clause-begins : goal.returns-in_err-take_turn-clause-begins
returns-in_err-take_turn-clause-begins g c = begins_trans _ _ _ c.in_err-take_turn.ensures.begins c.loop-play.invariant.begins

pub loop-play-preserved : goal.loop-play-preserved
loop-play-preserved g c =
    let i = c.loop-play.invariant in
    let told = c.in_ok-take_turn.ensures in
    record {
      own = told.own;
      begins = begins_trans _ _ _ told.begins i.begins;
      place = told.moves.place;
      rest = told.moves.rest ∙ i.rest;
    }

pub returns-clause-played : goal.returns-clause-played
returns-clause-played g c =
    let i = c.loop-play.invariant in
    sym (over_played c.args.lock.now.setup c.loop-play.play.place c.loop-play.pass.seen i.place c.loop-play-test.false) ∙ i.rest
