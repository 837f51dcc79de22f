use Rattle.std.proofs.Common.{refl, sym}
use Rattle.hist_model.specs.Steps.{found}
use Rattle.hist_model.specs.Tasks.{holder}
use Rattle.model_kernel.proofs.Words.{past, Signal, step_by}
use Rattle.model_kernel.proofs.TaskSteps.{acted, groups-other, listener-other, step-answered}
use Rattle.model_kernel.proofs.kernel.Kernel.send_signal.Goals as goal

pub returns : goal.returns
returns c =
    let k = c.args.self.now in
    let m = c.requires.ready in
    let w = Signal c.args.pid c.args.sig (found (holder (past k) c.args.pid)) in
    let answer = c.signal.ensures.answer k.script (past k) m.kernel.tasks in
    step-answered k c.args.task w _ _ answer
    (acted k c.args.task w c.signal.new.self m c.requires.due _ _ _ refl refl refl (λ own. c.signal.ensures.stands k.script (past k) (step_by k c.args.task w) m.kernel.tasks own (sym answer)) c.signal.ensures.count
    (groups-other k c.args.task w m.kernel refl) (listener-other k c.args.task w m.kernel tt))
