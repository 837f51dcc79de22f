use Rattle.std.proofs.Common.{All, length}
use Rattle.crew.specs.Locks.{AreOf, HaveSeen, IsFirst}
use Rattle.crew.proofs.hands.gather_others.Given as goal

abbrev pub invariant-loop-hand : goal.invariant-loop-hand
invariant-loop-hand g l = record {
  own : AreOf l.locks.items l.firsts.items;
  first : All (IsFirst (length l.hands.items)) l.firsts.items;
  seen : HaveSeen l.firsts.items l.fn.firsts.items;
  hands : All (λ h. AreOf l.locks.items h.passes.items) l.hands.items;
}

abbrev pub decreases-loop-hand : goal.decreases-loop-hand
decreases-loop-hand g l = goal.left-loop-hand g l
