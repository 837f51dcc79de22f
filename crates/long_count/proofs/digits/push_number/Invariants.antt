use Rattle.std.proofs.Common.{◌≡◌, ◌+◌, ◌*◌, ◌^◌, length}
use Rattle.long_count.specs.Digits.{AreDigits, value}
use Rattle.long_count.proofs.digits.push_number.Given as goal

abbrev pub invariant-digits : goal.invariant-digits
invariant-digits l = record {
  digits : AreDigits l.digits.items;
  is : value l.digits.items + 10 ^ length l.digits.items * l.rest ≡ value l.fn.digits.items + 10 ^ length l.fn.digits.items * l.number;
}

abbrev pub decreases-digits : goal.decreases-digits
decreases-digits l = l.rest
