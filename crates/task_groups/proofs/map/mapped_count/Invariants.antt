use Rattle.std.proofs.Common.{◌≡◌, ℕ, ◌+◌, ◌-◌, ◌<◌, ◌≤◌, true}
use Rattle.hist_model.specs.Memory.{is_mapped}
use Rattle.task_groups.proofs.map.mapped_count.Given as goal

abbrev pub invariant-loop-count : goal.invariant-loop-count
invariant-loop-count l = record {
  most : l.count ≤ l.len;
  mapped : (i : ℕ) → i < l.count → is_mapped l.map (l.addr + i) ≡ true;
}

abbrev pub decreases-loop-count : goal.decreases-loop-count
decreases-loop-count l = l.len - l.count
