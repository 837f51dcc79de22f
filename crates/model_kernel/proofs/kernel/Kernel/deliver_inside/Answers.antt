use Rattle.std.proofs.Common.{refl, true, ap, ◌∙◌, ◌∷◌}
use Rattle.model_kernel.proofs.Words.{groups_after, named, past, step_by}
use Rattle.model_kernel.proofs.TaskSteps.{acted, counted, counts, due-delivered, groups-other, none-due, held-in, listed-as, leaving}
use Rattle.model_kernel.proofs.kernel.Kernel.deliver_inside.Goals as goal

pub returns-in_err-what-clause-none : goal.returns-in_err-what-clause-none
returns-in_err-what-clause-none c =
    let k = c.args.self.now in
    let m = c.requires.ready in
    let held = c.holds_back-held.ensures c.requires.waits.0 (listed-as k c.args.task c.requires.waits.0 c.args.id c.requires.waits.1) ∙ held-in k.script.killable (past k) (named k c.args.task) c.requires.waits.0 c.requires.waits.1.call_is in
    rw c.from_residual.ensures (ap (λ t. record k { tasks = t }) c.in_err-what.ensures.none, none-due k c.args.task true (c.in_err-what.ensures.next k.script (past k) m.kernel.tasks m.made m.lives held))

pub leave_group-requires : goal.leave_group-requires
leave_group-requires c = rw c.group-group.ensures.at (counts c.args.self.now c.args.task c.requires.ready)

pub returns-clause-step : goal.returns-clause-step
returns-clause-step c =
    let k = c.args.self.now in
    let m = c.requires.ready in
    let o = c.args.task in
    let w = c.in_ok-what.what in
    let (place, waits) = c.requires.waits in
    let e = step_by k o w in
    let held = c.holds_back-held.ensures place (listed-as k o place c.args.id waits) ∙ held-in k.script.killable (past k) (named k o) place waits.call_is in
    let (due, d) = due-delivered k o true w c.requires.due (c.in_ok-what.ensures.next k.script (past k) m.kernel.tasks m.made m.lives held) in
    acted k o w c.deliver.new.self m due _ c.leave_group.new.groups c.leave.new.self (rw d.is refl) (rw d.is refl) (rw d.is refl) (λ own. c.in_ok-what.ensures.stands k.script (past k) e m.kernel.tasks own refl)
    (counted k o c.group-group.result w c.deliver.new.self m c.group-group.ensures.at c.in_ok-what.ensures.count)
    (c.leave_group.ensures (groups_after k (e ∷ past k)) (groups-other k o w m.kernel (rw d.is refl)))
    (c.leave.ensures k.script.firstid (past k) e m.kernel.resources.listener (leaving k o place c.args.id w m waits (rw d.is refl)))
