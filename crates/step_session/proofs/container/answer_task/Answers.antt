use Rattle.std.proofs.Common.{ap, subst, sym, ◌∙◌}
use Rattle.hist_model.specs.declared.history.History.{History}
use Rattle.model_kernel.specs.Kernels.{past}
use Rattle.step_session.specs.Answers.{task_answer}
use Rattle.step_session.specs.Stands.{Answers}
use Rattle.step_session.proofs.Stepping.{task-skipped, task-stepped}
use Rattle.step_session.proofs.Told.{on_ok}
use Rattle.step_session.proofs.container.answer_task.Goals as goal

pub returns-in-Ok : goal.returns-in-Ok
returns-in-Ok c =
    let found = c.in-Some.ensures.some c.requires in
    let (takes, steps) = c.in-Ok.ensures in
    on_ok c.push_newest.result
    (λ added. task-stepped c.args.kernel.now c.ready_task.new.self c.task_step.new.self c.in-Some.task c.args.name.now c.ready_task.ensures.same found.0 (found.1 ∙ c.items.ensures) c.args.line.now c.push_newest.new.line takes steps (λ e H q. added e H (ap (λ (h : History). h.events) c.history.ensures ∙ q)))
    c.push_newest.ensures

pub returns-in-Err : goal.returns-in-Err
returns-in-Err c =
    let k = c.args.kernel.now in
    let found = c.in-Some.ensures.some c.requires in
    let (same, skip) = c.in-Err.ensures in
    on_ok c.push.result
    (λ added. subst (λ x. Answers k (task_answer k.script (past k) c.args.name.now) c.args.line.now c.push.new.self x) (sym same)
    (task-skipped k c.ready_task.new.self c.task_step.new.self c.in-Some.task c.args.name.now c.ready_task.ensures.same found.0 (found.1 ∙ c.items.ensures) c.args.line.now c.push.new.self skip added))
    c.push.ensures
