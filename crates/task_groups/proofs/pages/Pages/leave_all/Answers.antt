use Rattle.std.proofs.lemmas.List.{take_more}
use Rattle.task_groups.specs.declared.list.PageEntry.{PageEntry}
use Rattle.task_groups.proofs.Shares.{left-none, left-more}
use Rattle.task_groups.proofs.pages.Pages.leave_all.Goals as goal

pub loop-entry-init : goal.loop-entry-init
loop-entry-init c = record { done = left-none c.args.self.now; store = λ s. s }

pub loop-entry-preserved : goal.loop-entry-preserved
loop-entry-preserved c =
    let d : PageEntry = record { number = 0; slot = 0 } in
    record {
      done = rw (take_more c.args.list.now c.loop-entry.entry-index d c.loop-entry-test.true)
          (left-more c.args.self.now c.loop-entry.self c.leave.new.self _ _ c.loop-entry.invariant.done c.leave.ensures.left);
      store = λ s. c.leave.ensures.store (c.loop-entry.invariant.store s);
    }
