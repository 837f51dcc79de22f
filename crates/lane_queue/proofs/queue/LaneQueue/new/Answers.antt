use Rattle.std.proofs.Common.{ap}
use Rattle.lane_queue.proofs.Handings.{begins, forks}
use Rattle.lane_queue.proofs.queue.LaneQueue.new.Goals as goal

pub ruled-requires-clause-rule : goal.ruled-requires-clause-rule
ruled-requires-clause-rule c = begins

pub another-other-requires-clause-rule : goal.another-other-requires-clause-rule
another-other-requires-clause-rule c =
    let made = c.in_ok-line.ensures.3 in
    forks _ _ _ _ (ap (λ v. v.put) made) (ap (λ v. v.taken) made)
