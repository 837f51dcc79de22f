use Rattle.std.proofs.Common.{◌≡◌, ◌≤◌, drop, length, map}
use Rattle.explorer.specs.Paths.{is_before, left_of}
use Rattle.explorer.proofs.order.come_before.Given as goal

abbrev pub invariant-turns : goal.invariant-turns
invariant-turns l = record {
  same : is_before (map left_of l.turns) (map left_of l.others) ≡ is_before (map left_of (drop l.index l.turns)) (map left_of (drop l.index l.others));
  within : l.index ≤ length l.others;
}
