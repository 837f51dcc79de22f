use Rattle.std.proofs.Common.{refl}
use Rattle.model_kernel.proofs.Words.{Handler, past, step_by}
use Rattle.model_kernel.proofs.TaskSteps.{acted, groups-other, listener-other}
use Rattle.model_kernel.proofs.kernel.Kernel.handle.Goals as goal

pub returns : goal.returns
returns c =
    let k = c.args.self.now in
    let m = c.requires.ready in
    let w = Handler c.args.sig c.args.disposition in
    acted k c.args.task w c.handler.new.self m c.requires.due _ _ _ refl refl refl (λ own. c.handler.ensures.stands k.script (past k) (step_by k c.args.task w) m.kernel.tasks own refl) c.handler.ensures.count
    (groups-other k c.args.task w m.kernel refl) (listener-other k c.args.task w m.kernel tt)
