-- The first tasks, and one more.
use Rattle.std.proofs.Common.{ap, ◌++◌, ◌∙◌}
use Rattle.model_kernel.specs.Kernels.{past}
use Rattle.state_answers.specs.Able.{is_able}
use Rattle.state_answers.specs.Able.{able_name}
use Rattle.state_answers.proofs.AbleTasks.{able_more, able_none}
use Rattle.state_answers.proofs.able.push_tasks.Goals as goal

pub loop-task-init : goal.loop-task-init
loop-task-init c = (able_none c.args.kernel.now.script (past c.args.kernel.now) c.args.line.now, c.tasks-made.ensures c.requires)

pub loop-task-preserved : goal.loop-task-preserved
loop-task-preserved c =
    let S = c.args.kernel.now.script in
    let K = past c.args.kernel.now in
    let n = c.loop-task.task in
    let added = c.in_ok-push_able.ensures ∙ (ap (λ b. c.loop-task.line ++ able_name b c.name_of.result.now) c.can_step.ensures ∙ ap (λ name. c.loop-task.line ++ able_name (is_able S K n) name) (c.name_of.ensures c.requires)) in
    (able_more S K n c.args.line.now c.loop-task.line c.push_able.new.line c.loop-task.invariant.0 added, c.loop-task.invariant.1)
