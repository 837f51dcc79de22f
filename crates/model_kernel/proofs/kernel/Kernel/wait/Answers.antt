use Rattle.std.proofs.Common.{refl, sym, ◌∙◌}
use Rattle.model_kernel.proofs.Words.{past, step_by}
use Rattle.model_kernel.proofs.TaskSteps.{acted, groups-other, listener-other, reap-plain}
use Rattle.model_kernel.proofs.kernel.Kernel.wait.Goals as goal

pub returns-clause-step : goal.returns-clause-step
returns-clause-step c =
    let k = c.args.self.now in
    let m = c.requires.ready in
    let o = c.args.task in
    let w = c.in_ok-what.what in
    let due = c.requires.due ∙ sym (c.in_ok-what.ensures.answer k.script (past k) m.kernel.tasks m.made m.lives) in
    let p = reap-plain (past k) (step_by k o w).who w c.in_ok-what.ensures.some in
    acted k o w c.reap.new.self m due _ _ _ p.is_step p.makes_none p.tree (λ own. c.in_ok-what.ensures.stands k.script (past k) (step_by k o w) m.kernel.tasks own refl) c.in_ok-what.ensures.count
    (groups-other k o w m.kernel p.keeps) (listener-other k o w m.kernel p.other)
