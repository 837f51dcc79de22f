use Rattle.std.proofs.Common.{◌≡◌, length, []}
use Rattle.handover.specs.Keeping.{AllKeep}
use Rattle.handover.proofs.ledgers.new_ledgers.Given as goal

abbrev pub invariant-loop-number : goal.invariant-loop-number
invariant-loop-number l = record {
  filled : length l.ledgers.items ≡ l.number;
  idle : AllKeep [] l.ledgers.items;
}
