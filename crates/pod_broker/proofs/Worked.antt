-- What the small containers play, and what is said of it.
-- By `refl`: both sides of each equation compute to the same value.
use Rattle.std.proofs.Common.{refl}
use Rattle.hist_model.specs.Look.{event_at, newest, oldest}
use Rattle.hist_model.specs.Tasks.{ended, was_waited_for, reaped, holder, free_from, last_pid, next_pid, is_made, disposition, pending}
use Rattle.hist_model.specs.Signals.{call_of, next_signal}
use Rattle.hist_model.specs.Calls.{listed, settled}
use Rattle.hist_model.specs.Legal.{with_schedule, with_steps}
use Rattle.hist_model.specs.Programs.{program}
use Rattle.hist_model.specs.Steps.{step, task_step, steps_of, owes_native, task_place}
use Rattle.pod_broker.specs.Examples.{GivesItsNumbers, Overlapping, OwnSteps, Separate, SharesNumbers, SignalsItself, SignalsNobody}

pub worked : Separate × Overlapping × SignalsNobody × SignalsItself × OwnSteps × GivesItsNumbers × SharesNumbers
unfolding event_at newest oldest ended was_waited_for reaped holder free_from last_pid next_pid is_made disposition pending call_of next_signal listed settled with_schedule with_steps program step task_step steps_of owes_native task_place
worked = ((refl, refl), (refl, refl, refl), refl, refl, (refl, refl), (refl, refl, refl), λ apart. let h = apart 1 refl in cc)
