use Rattle.step_session.specs.declared.origin.Origin.{Origin}
use Rattle.step_requests.specs.declared.request.StepRequest.TheVariants as step
use Rattle.asked_steps.proofs.Kept.{task_keeps_open}
use Rattle.step_session.proofs.Told.{answered_open, on_ok}
use Rattle.step_session.proofs.container.Container.task.Goals as goal

pub returns-in-Open : goal.returns-in-Open
returns-in-Open c =
    on_ok c.answer_task.result (λ answers (P : Origin). answered_open P (step.Task c.args.name.now) c.args.self.now c.in-Open.kernel c.answer_task.new.kernel c.args.line.now c.answer_task.new.line c.in-Open.is
    (λ S K q. task_keeps_open S K c.args.name.now q) answers) c.answer_task.ensures
