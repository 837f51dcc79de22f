use Rattle.std.proofs.Common.{◌-◌, ◌≤◌, length}
use Rattle.sorted_list.specs.Entries.{NumbersRise}
use Rattle.task_groups.specs.Descriptors.{descriptor_number}
use Rattle.task_groups.proofs.FirstFree.{IsFull, IsThin}
use Rattle.task_groups.proofs.descriptors.first_free.Given as goal

abbrev pub invariant-loop-low : goal.invariant-loop-low
invariant-loop-low l = record {
  ordered : l.low ≤ l.high;
  within : l.high ≤ length l.entries;
  full : NumbersRise descriptor_number l.entries → IsFull l.entries l.low;
  thin : NumbersRise descriptor_number l.entries → IsThin l.entries l.high;
}

abbrev pub decreases-loop-low : goal.decreases-loop-low
decreases-loop-low l = l.high - l.low
