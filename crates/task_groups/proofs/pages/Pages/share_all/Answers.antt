use Rattle.std.proofs.lemmas.List.{take_more}
use Rattle.task_groups.specs.declared.list.PageEntry.{PageEntry}
use Rattle.task_groups.proofs.Shares.{shared-none, shared-more}
use Rattle.task_groups.proofs.pages.Pages.share_all.Goals as goal

pub loop-entry-init : goal.loop-entry-init
loop-entry-init c = record { done = shared-none c.args.self.now; store = λ s. s }

pub loop-entry-preserved : goal.loop-entry-preserved
loop-entry-preserved c =
    let d : PageEntry = record { number = 0; slot = 0 } in
    record {
      done = rw (take_more c.args.list.now c.loop-entry.entry-index d c.loop-entry-test.true)
          (shared-more c.args.self.now c.loop-entry.self c.share.new.self _ _ c.loop-entry.invariant.done c.share.ensures.shared);
      store = λ s. c.share.ensures.store (c.loop-entry.invariant.store s);
    }
