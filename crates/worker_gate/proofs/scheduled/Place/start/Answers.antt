-- No step is left of a line, and all lines are left.
use Rattle.hist_model.specs.declared.event.Actor.TheVariants.{Worker}
use Rattle.worker_gate.proofs.Schedules.{all_left}
use Rattle.worker_gate.proofs.scheduled.Place.start.Goals as goal

pub returns-clause-rest : goal.returns-clause-rest
returns-clause-rest c made K = all_left made.policy made.script (Worker 0) K
