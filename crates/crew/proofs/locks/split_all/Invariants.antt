use Rattle.std.proofs.Common.{◌≡◌, ◌+◌, ◌≤◌, ℕ, All, drop, length, map, take, vec_capacity}
use Rattle.crew.proofs.Passes.{Outs}
use Rattle.crew.specs.Locks.{AreOf, IsFirst, MaySplit, key, key_of_pass, seen_of}
use Rattle.crew.proofs.locks.split_all.Given as goal

abbrev pub invariant-loop-place : goal.invariant-loop-place
invariant-loop-place g l = record {
  own : AreOf l.locks.items l.firsts.items;
  may : All MaySplit (drop l.place l.firsts.items);
  first : (n : ℕ) → All (IsFirst n) l.fn.firsts.items → Outs (n + 1) n l.place l.firsts.items;
  seen : map seen_of l.firsts.items ≡ map seen_of l.fn.firsts.items;
  number : l.place ≡ length l.passes.items;
  room : l.count ≤ vec_capacity l.passes;
  passes : map key_of_pass l.passes.items ≡ take l.place (map key l.locks.items);
}
