use Rattle.std.proofs.Common.{◌≡◌, ◌++◌, All, length, map}
use Rattle.crew.specs.Locks.{AreOf, HasEnded, IsDone, IsFirst, seen_of, setup_of}
use Rattle.crew.proofs.locks.close_all.Given as goal

abbrev pub invariant-loop-locks : goal.invariant-loop-locks
invariant-loop-locks g l = record {
  own : AreOf l.locks.items l.firsts.items;
  first : All (IsFirst 0) l.firsts.items;
  over : All (HasEnded g.S.Crewed.ends) l.firsts.items;
  setups : map g.S.Journalled.setup l.ended.items ++ map setup_of l.locks.items ≡ map setup_of l.fn.locks.items;
  seen : map (λ s. (g.S.Journalled.history s).events) l.ended.items ++ map seen_of l.firsts.items ≡ map seen_of l.fn.firsts.items;
  done : All (IsDone g.S.Journalled.setup g.S.Journalled.history g.S.Crewed.ends) l.ended.items;
}

abbrev pub decreases-loop-locks : goal.decreases-loop-locks
decreases-loop-locks g l = length l.locks.items
