use Rattle.std.proofs.Common.{All, take}
use Rattle.crew.specs.Locks.{AreOf, HasEnded, HaveSeen, IsFirst}
use Rattle.crew.proofs.locks.see_ends.Given as goal

abbrev pub invariant-loop-place : goal.invariant-loop-place
invariant-loop-place g l = record {
  own : AreOf l.locks.items l.firsts.items;
  first : All (IsFirst 0) l.firsts.items;
  seen : HaveSeen l.firsts.items l.fn.firsts.items;
  over : All (HasEnded g.S.Crewed.ends) (take l.place l.firsts.items);
}
