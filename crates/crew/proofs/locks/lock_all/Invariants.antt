use Rattle.std.proofs.Common.{◌≡◌, ◌++◌, All, length, map}
use Rattle.crew.specs.Locks.{AreOf, IsFirst, seen_of, setup_of}
use Rattle.crew.proofs.locks.lock_all.Given as goal

abbrev pub invariant-loop-alloc : goal.invariant-loop-alloc
invariant-loop-alloc g l = record {
  setups : map setup_of l.locks.items ++ map g.S.Journalled.setup l.states.items ≡ map g.S.Journalled.setup l.fn.states.items;
  own : AreOf l.locks.items l.firsts.items;
  first : All (IsFirst 0) l.firsts.items;
  seen : map seen_of l.firsts.items ++ map (λ s. (g.S.Journalled.history s).events) l.states.items ≡ map (λ s. (g.S.Journalled.history s).events) l.fn.states.items;
}

abbrev pub decreases-loop-alloc : goal.decreases-loop-alloc
decreases-loop-alloc g l = length l.states.items
