use Rattle.std.proofs.Common.{◌≡◌, ◌+◌, ℕ, All, drop, map}
use Rattle.crew.proofs.Passes.{Outs}
use Rattle.crew.specs.Locks.{AreOf, HaveSeen, IsFirst, MayJoin, key, key_of_pass}
use Rattle.crew.proofs.locks.join_all.Given as goal

abbrev pub invariant-loop-place : goal.invariant-loop-place
invariant-loop-place g l = record {
  own : AreOf l.locks.items l.firsts.items;
  may : All MayJoin (drop l.place l.firsts.items);
  first : (n : ℕ) → All (IsFirst (n + 1)) l.fn.firsts.items → Outs n (n + 1) l.place l.firsts.items;
  seen : HaveSeen l.firsts.items l.fn.firsts.items;
  passes : map key_of_pass l.passes.items ≡ drop l.place (map key l.locks.items);
}
