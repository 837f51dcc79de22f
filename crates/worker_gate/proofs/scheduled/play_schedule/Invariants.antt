use Rattle.std.proofs.Common.{◌≡◌}
use Rattle.hist_model.specs.Legal.{with_schedule}
use Rattle.turn_lock.specs.Facts.{IsAlone, IsPassOf}
use Rattle.turn_lock.specs.Lists.{Begins}
use Rattle.worker_gate.specs.Scheduling.{IsPlace, turns_left, with_rest}
use Rattle.worker_gate.proofs.scheduled.play_schedule.Given as goal

abbrev pub invariant-loop-play : goal.invariant-loop-play
invariant-loop-play g l = record {
  own : IsPassOf l.lock l.pass × IsAlone l.pass;
  begins : Begins l.pass.seen l.fn.pass.seen;
  place : IsPlace l.lock.setup l.pass.seen l.play.place;
  rest : with_rest l.lock.setup l.play.place l.pass.seen ≡ with_schedule l.lock.setup.policy l.lock.setup.script l.lock.setup.script.schedule l.fn.pass.seen;
}

abbrev pub decreases-loop-play : goal.decreases-loop-play
decreases-loop-play g l = turns_left l.lock.setup l.play.place
