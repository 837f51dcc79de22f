use Rattle.std.proofs.Common.{◌≡◌, ◌+◌, ◌-◌, ◌*◌, ◌<◌, ◌≤◌, ◌++◌, vec_len, vec_capacity}
use Rattle.sorted_list.specs.Entries.{NumbersRise}
use Rattle.task_groups.specs.Lists.{page_number}
use Rattle.task_groups.specs.Pages.{byte_in, bytes_from}
use Rattle.task_groups.proofs.pages.Pages.append.Given as goal

abbrev pub invariant-loop-rest : goal.invariant-loop-rest
invariant-loop-rest l = record {
  most : l.rest ≤ l.count;
  within : l.offset < 4096;
  at : 0 < l.rest → 4096 * l.number + l.offset ≡ l.addr + (l.count - l.rest);
  low : 4096 * l.number ≤ l.addr + (l.count - l.rest) + 4096;
  room : vec_len l.out + l.rest ≤ vec_capacity l.out;
  kept : vec_capacity l.fn.out ≤ vec_capacity l.out;
  done : NumbersRise page_number l.list → l.out.items ≡ l.fn.out.items ++ bytes_from (byte_in l.self l.list) l.addr (l.count - l.rest);
}

abbrev pub decreases-loop-rest : goal.decreases-loop-rest
decreases-loop-rest l = l.rest
