use Rattle.std.proofs.Common.{◌≡◌, ◌+◌, ◌*◌, ◌^◌, ◌≤◌, length, take}
use Rattle.long_count.specs.Digits.{AreDigits, value}
use Rattle.long_count.proofs.digits.with_times.Given as goal

abbrev pub invariant-loop-place : goal.invariant-loop-place
invariant-loop-place l = record {
  digits : AreDigits l.sum.items;
  len : length l.sum.items ≡ l.place;
  carried : l.carry ≤ l.times;
  is : value l.sum.items + 10 ^ l.place * l.carry ≡ value (take l.place l.one) + value (take l.place l.other) * l.times;
}
