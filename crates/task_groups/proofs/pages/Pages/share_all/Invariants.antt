use Rattle.std.proofs.Common.{take}
use Rattle.task_groups.specs.Pages.{IsStore, IsShared}
use Rattle.task_groups.proofs.pages.Pages.share_all.Given as goal

abbrev pub invariant-loop-entry : goal.invariant-loop-entry
invariant-loop-entry l = record {
  done : IsShared l.fn.self (take l.entry-index l.list) l.self;
  store : IsStore l.fn.self → IsStore l.self;
}
