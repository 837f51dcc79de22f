use Rattle.std.proofs.Common.{ap}
use Rattle.lane_queue.proofs.Handings.{learns_full, pushes}
use Rattle.lane_queue.proofs.queue.LaneQueue.put.Goals as goal

pub push_as-requires-clause-rule : goal.push_as-requires-clause-rule
push_as-requires-clause-rule g c = (pushes _ _ _ _ _ (ap (λ v. v.put) c.pass.invariant.0), learns_full _ _)
