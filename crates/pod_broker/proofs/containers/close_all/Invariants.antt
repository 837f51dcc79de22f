use Rattle.std.proofs.Common.{All, length, map}
use Rattle.crew.specs.Locks.{IsDone}
use Rattle.pod_broker.proofs.Closing.{Closes}
use Rattle.pod_broker.specs.Serving.{IsClosedAs, IsLimited}
use Rattle.pod_broker.proofs.containers.close_all.Given as goal

abbrev pub invariant-loop-states : goal.invariant-loop-states
invariant-loop-states g l = record {
  limited : All IsLimited (map g.S.Journalled.setup l.states.items);
  done : All (IsDone g.S.Journalled.setup g.S.Journalled.history g.S.Crewed.ends) l.states.items;
  closes : Closes g.S.Journalled.setup (IsClosedAs g.S.Contained.keeps) l.fn.states.items l.states.items l.played.items;
}

abbrev pub decreases-loop-states : goal.decreases-loop-states
decreases-loop-states g l = length l.states.items
