use Rattle.std.proofs.Common.{length}
use Rattle.explorer.specs.Walking.{IsPartDone, walks_in}
use Rattle.explorer.proofs.one_walk.walk_all.Given as goal

abbrev pub invariant-walks : goal.invariant-walks
invariant-walks l = IsPartDone l.fn.policy l.fn.script l.workers l.bound l.found l.walker

abbrev pub decreases-walks : goal.decreases-walks
decreases-walks l = length (walks_in l.fn.policy l.workers l.walker)
