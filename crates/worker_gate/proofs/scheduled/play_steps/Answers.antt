-- Each turn leaves what was left to come to, and where the schedule is over that is the history.
use Rattle.std.proofs.Common.{refl, sym, ◌∙◌}
use Rattle.worker_gate.proofs.Schedules.{over_played}
use Rattle.worker_gate.proofs.scheduled.play_steps.Goals as goal

pub loop-place-init : goal.loop-place-init
loop-place-init c = record {
  setup = refl;
  place = c.start-place.ensures.place c.args.state.now.setup c.args.state.now.history.events;
  rest = c.start-place.ensures.rest c.args.state.now.setup c.args.state.now.history.events;
}

pub returns-clause-played : goal.returns-clause-played
returns-clause-played c =
    let i = c.loop-place.invariant in
    sym (over_played c.args.state.now.setup c.loop-place.place c.loop-place.state.history.events i.place c.loop-place-test.false) ∙ i.rest
