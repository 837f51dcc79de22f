use Rattle.std.proofs.Common.{◌≡◌}
use Rattle.hist_model.specs.Legal.{with_schedule}
use Rattle.worker_gate.specs.Scheduling.{IsPlace, turns_left, with_rest}
use Rattle.worker_gate.proofs.scheduled.play_steps.Given as goal

abbrev pub invariant-loop-place : goal.invariant-loop-place
invariant-loop-place l = record {
  setup : l.state.setup ≡ l.fn.state.setup;
  place : IsPlace l.fn.state.setup l.state.history.events l.place;
  rest : with_rest l.fn.state.setup l.place l.state.history.events
      ≡ with_schedule l.fn.state.setup.policy l.fn.state.setup.script l.fn.state.setup.script.schedule l.fn.state.history.events;
}

abbrev pub decreases-loop-place : goal.decreases-loop-place
decreases-loop-place l = turns_left l.fn.state.setup l.place
