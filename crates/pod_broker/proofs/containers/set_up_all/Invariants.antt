use Rattle.std.proofs.Common.{◌≡◌, ◌++◌, length, map}
use Rattle.pod_broker.specs.Serving.{set_up_for}
use Rattle.pod_broker.proofs.containers.set_up_all.Given as goal

abbrev pub invariant-loop-alloc : goal.invariant-loop-alloc
invariant-loop-alloc g l = map g.S.Journalled.setup l.states.items ++ map (set_up_for l.workers l.every) l.containers.items ≡ map (set_up_for l.workers l.every) l.fn.containers.items

abbrev pub decreases-loop-alloc : goal.decreases-loop-alloc
decreases-loop-alloc g l = length l.containers.items
