-- The task steps, or it can't, or it isn't there.
use Rattle.hist_model.specs.Tasks.{is_made}
use Rattle.std.proofs.Common.{ap, sym, subst, ◌∙◌}
use Rattle.model_kernel.specs.Kernels.{past}
use Rattle.asked_steps.specs.Steps.{after_task}
use Rattle.asked_steps.specs.Stands.{CameTo}
use Rattle.asked_steps.proofs.Stepping.{task_came, task_missing, task_stayed}
use Rattle.asked_steps.proofs.steps.step_task.Goals as goal

pub returns-in_default : goal.returns-in_default
returns-in_default c =
    task_missing c.args.kernel.now c.args.name.now c.requires (ap (is_made (past c.args.kernel.now)) (sym c.items.ensures) ∙ c.in_default.ensures.none c.requires)

pub returns-in-Ok : goal.returns-in-Ok
returns-in-Ok c =
    let found = c.in-Some.ensures.some c.requires in
    let (takes, steps) = c.in-Ok.ensures in
    task_came c.args.kernel.now c.ready_task.new.self c.task_step.new.self c.in-Some.task c.args.name.now c.ready_task.ensures.same found.0 (found.1 ∙ c.items.ensures) takes steps

pub returns-in-Err : goal.returns-in-Err
returns-in-Err c =
    let k = c.args.kernel.now in
    let found = c.in-Some.ensures.some c.requires in
    let (same, skip) = c.in-Err.ensures in
    subst (λ x. CameTo k (after_task k.script (past k) c.args.name.now) x) (sym same)
    (task_stayed k c.ready_task.new.self c.task_step.new.self c.in-Some.task c.args.name.now c.ready_task.ensures.same found.0 (found.1 ∙ c.items.ensures) skip)
