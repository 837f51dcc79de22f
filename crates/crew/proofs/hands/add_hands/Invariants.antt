use Rattle.std.proofs.Common.{◌≡◌, ◌≤◌, All, length, map, vec_capacity}
use Rattle.crew.specs.Locks.{Admits, AreOf, IsFirst, seen_of}
use Rattle.crew.proofs.hands.add_hands.Given as goal

abbrev pub invariant-loop-place : goal.invariant-loop-place
invariant-loop-place g l = record {
  own : AreOf l.locks.items l.firsts.items;
  first : All (IsFirst l.place) l.firsts.items;
  seen : map seen_of l.firsts.items ≡ map seen_of l.fn.firsts.items;
  room : l.count ≤ vec_capacity l.others;
  number : l.place ≡ length l.others.items;
  hands : All (λ h. AreOf l.locks.items h.passes.items × All (Admits h.turn.errand.worker) l.locks.items) l.others.items;
}
