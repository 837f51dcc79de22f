use Rattle.std.proofs.Common.{refl}
use Rattle.model_kernel.proofs.Words.{past, Resume, step_by}
use Rattle.model_kernel.proofs.TaskSteps.{acted, groups-other, leaving, same-counts}
use Rattle.model_kernel.proofs.kernel.Kernel.resume.Goals as goal

pub returns : goal.returns
returns c =
    let k = c.args.self.now in
    let m = c.requires.ready in
    let o = c.args.task in
    let w = Resume c.args.back in
    let e = step_by k o w in
    acted k o w c.stepped.new.self m c.requires.due _ _ c.leave.new.self refl refl refl (λ own. c.stepped.ensures.stands k.script (past k) e m.kernel.tasks own refl refl)
    (same-counts k.tasks c.stepped.new.self o w refl c.stepped.ensures.count) (groups-other k o w m.kernel refl)
    (c.leave.ensures k.script.firstid (past k) e m.kernel.resources.listener (leaving k o c.requires.waits.0 c.args.id w m c.requires.waits.1 refl))
