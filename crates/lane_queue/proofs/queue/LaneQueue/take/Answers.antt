use Rattle.std.proofs.Common.{ap}
use Rattle.lane_queue.proofs.Handings.{learns_left, pops}
use Rattle.lane_queue.proofs.queue.LaneQueue.take.Goals as goal

pub pop_as-requires-clause-rule : goal.pop_as-requires-clause-rule
pop_as-requires-clause-rule g c = (pops _ _ _ (ap (λ v. v.taken) c.pass.invariant.0), learns_left _ _)
