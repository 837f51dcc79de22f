use Rattle.std.proofs.Common.{◌≡◌, ◌≤◌, length, take}
use Rattle.long_count.specs.Digits.{value}
use Rattle.long_count.proofs.digits.significant.Given as goal

abbrev pub invariant-zeros : goal.invariant-zeros
invariant-zeros l = record {
  within : l.count ≤ length l.digits;
  is : value (take l.count l.digits) ≡ value l.digits;
}

abbrev pub decreases-zeros : goal.decreases-zeros
decreases-zeros l = l.count
