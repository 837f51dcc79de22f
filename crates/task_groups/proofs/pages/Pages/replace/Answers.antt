use Rattle.std.proofs.Common.{◌∙◌}
use Rattle.task_groups.proofs.Shares.{owned-new}
use Rattle.task_groups.proofs.Lists.{listed}
use Rattle.task_groups.proofs.pages.Pages.replace.Goals as goal

pub returns-clause-owned : goal.returns-clause-owned
returns-clause-owned c r l q h =
    owned-new c.args.self.now c.add-slot.new.self c.leave_some.new.self c.args.list.now.items c.set.new.entries.items c.args.number c.add-slot.result l
    (c.leave_some.ensures.store (c.add-slot.ensures.store r))
    (rw q at c.add-slot.ensures.added) (rw q at c.leave_some.ensures.left) (listed (c.set.ensures.set l.rises) (c.set.ensures.sums l.rises))
    (λ p e. h p (q ∙ e))

pub returns-clause-pages : goal.returns-clause-pages
returns-clause-pages c k h = c.leave_some.ensures.room k (c.add-slot.ensures.room k h)
