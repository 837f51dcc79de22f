use Rattle.std.proofs.Common.{◌≡◌, ◌+◌, ◌-◌, ◌*◌, ◌<◌, ◌≤◌, length, take, drop, vec_len, vec_capacity}
use Rattle.task_groups.specs.Pages.{IsStore, IsList, IsStored, HasPages, pages_touched}
use Rattle.task_groups.proofs.pages.Pages.store.Given as goal

abbrev pub invariant-loop-rest : goal.invariant-loop-rest
invariant-loop-rest l = record {
  most : length l.rest ≤ length l.bytes;
  rest : l.rest ≡ drop (length l.bytes - length l.rest) l.bytes;
  within : l.offset < 4096;
  at : 0 < length l.rest → 4096 * l.number + l.offset ≡ l.addr + (length l.bytes - length l.rest);
  low : 4096 * l.number ≤ l.addr + (length l.bytes - length l.rest) + 4096;
  pages : HasPages l.self (pages_touched l.offset (length l.rest));
  entries : vec_len l.list + pages_touched l.offset (length l.rest) ≤ vec_capacity l.list;
  done : IsStore l.fn.self → IsList l.fn.self l.fn.list.items → IsStored l.fn.self l.fn.list.items l.addr (take (length l.bytes - length l.rest) l.bytes) l.self l.list.items;
}

abbrev pub decreases-loop-rest : goal.decreases-loop-rest
decreases-loop-rest l = length l.rest
