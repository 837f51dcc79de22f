use Rattle.std.proofs.Common.{refl, ◌∷◌}
use Rattle.model_kernel.proofs.Words.{groups_after, named, past, step_by, Task}
use Rattle.model_kernel.proofs.TaskSteps.{acted, counted, counts, exit-plain, groups-other, listener-other}
use Rattle.model_kernel.proofs.kernel.Kernel.exit.Goals as goal

pub leave_group-requires : goal.leave_group-requires
leave_group-requires c = rw c.group-group.ensures.at (counts c.args.self.now c.args.task c.requires.ready)

pub returns : goal.returns
returns c =
    let k = c.args.self.now in
    let m = c.requires.ready in
    let o = c.args.task in
    let w = c.args.what in
    let e = step_by k o w in
    let plain = exit-plain (past k) (Task (named k o)) w c.requires.exits in
    acted k o w c.exit.new.self m c.requires.due _ c.leave_group.new.groups _ plain.is_step plain.makes_none plain.tree (λ own. c.exit.ensures.stands k.script (past k) e m.kernel.tasks own refl c.requires.exits)
    (counted k o c.group-group.result w c.exit.new.self m c.group-group.ensures.at c.exit.ensures.count)
    (c.leave_group.ensures (groups_after k (e ∷ past k)) (groups-other k o w m.kernel plain.keeps)) (listener-other k o w m.kernel plain.other)
