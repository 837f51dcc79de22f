use Rattle.std.proofs.Common.{refl, false, ◌∷◌}
use Rattle.model_kernel.proofs.Words.{groups_after, named, past, step_by}
use Rattle.model_kernel.proofs.TaskSteps.{acted, counted, counts, due-delivered, delivery-other, groups-other, listener-other, not-held}
use Rattle.model_kernel.proofs.kernel.Kernel.deliver_outside.Goals as goal

pub leave_group-requires : goal.leave_group-requires
leave_group-requires c = rw c.group-group.ensures.at (counts c.args.self.now c.args.task c.requires.ready)

pub returns-clause-step : goal.returns-clause-step
returns-clause-step c =
    let k = c.args.self.now in
    let m = c.requires.ready in
    let o = c.args.task in
    let w = c.in_ok-what.what in
    let e = step_by k o w in
    let next = c.in_ok-what.ensures.next k.script (past k) m.kernel.tasks m.made m.lives (not-held k.script.killable (past k) (named k o) c.requires.outside) in
    let (due, d) = due-delivered k o false w c.requires.due next in
    acted k o w c.deliver.new.self m due _ c.leave_group.new.groups _ (rw d.is refl) (rw d.is refl) (rw d.is refl) (λ own. c.in_ok-what.ensures.stands k.script (past k) e m.kernel.tasks own refl)
    (counted k o c.group-group.result w c.deliver.new.self m c.group-group.ensures.at c.in_ok-what.ensures.count)
    (c.leave_group.ensures (groups_after k (e ∷ past k)) (groups-other k o w m.kernel (rw d.is refl))) (listener-other k o w m.kernel (delivery-other k o w c.requires.outside d))
