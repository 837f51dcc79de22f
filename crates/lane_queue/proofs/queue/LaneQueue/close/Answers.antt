use Rattle.std.proofs.Common.{ap}
use Rattle.lane_queue.proofs.Handings.{learns_left, merges, none_left, pops}
use Rattle.lane_queue.proofs.queue.LaneQueue.close.Goals as goal

pub absorb-requires-clause-rule : goal.absorb-requires-clause-rule
absorb-requires-clause-rule g c = merges _ _ _ _ _ _ (ap (λ v. v.put) c.put.invariant.0) (ap (λ v. v.taken) c.take.invariant.0)

pub pop_as-requires-clause-rule : goal.pop_as-requires-clause-rule
pop_as-requires-clause-rule g c = (pops _ _ _ c.loop.invariant.taken, learns_left _ _)

pub returns-in-None-pop_as : goal.returns-in-None-pop_as
returns-in-None-pop_as g c =
    let held = c.in-None-pop_as.ensures.rule.1 in
    none_left _ _ held.0 held.1 (held.2 _ _ c.loop.invariant.put c.loop.invariant.taken)
