use Rattle.std.proofs.Common.{◌∙◌, arith, sym}
use Rattle.model_kernel.proofs.Words.{past}
use Rattle.model_kernel.proofs.Taken.{group-live, group-opened}
use Rattle.model_kernel.proofs.kernel.Kernel.living_group.Goals as goal

pub returns-clause-live : goal.returns-clause-live
returns-clause-live c =
    rw c.group.ensures.at (group-live c.args.self.now c.in_ok-task.task c.requires (sym c.has_ended.ensures.at ∙ c.if-has_ended.false) (omega (arith, c.has_few_events.ensures)))

pub returns-clause-group : goal.returns-clause-group
returns-clause-group c =
    let old = c.args.self.now in
    let h = c.in_ok-task.ensures.some old.script (past old) c.requires.tasks in
    group-opened old.script (past old) old.tasks c.args.pid c.in_ok-task.task c.group.result c.requires.tasks h (c.group.ensures.group old.script (past old) c.requires.tasks h.0)
