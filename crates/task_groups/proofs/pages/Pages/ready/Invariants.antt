use Rattle.std.proofs.Common.{◌≡◌, ◌-◌, ◌≤◌, vec_len}
use Rattle.slab.specs.Slab.{HasRoomFor}
use Rattle.task_groups.proofs.pages.Pages.ready.Given as goal

abbrev pub invariant-loop-count : goal.invariant-loop-count
invariant-loop-count l = record {
  room : HasRoomFor l.self.slots l.count;
  slots : l.self.slots.slots ≡ l.initial.self.slots.slots;
  grows : vec_len l.initial.self.stock ≤ vec_len l.self.stock;
}

abbrev pub decreases-loop-count : goal.decreases-loop-count
decreases-loop-count l = l.count - vec_len l.self.stock
