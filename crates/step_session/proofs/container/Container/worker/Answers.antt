use Rattle.step_session.specs.declared.origin.Origin.{Origin}
use Rattle.step_requests.specs.declared.request.StepRequest.TheVariants as step
use Rattle.asked_steps.proofs.Kept.{asked_keeps_open}
use Rattle.step_session.proofs.Told.{answered_open, on_ok}
use Rattle.step_session.proofs.container.Container.worker.Goals as goal

pub returns-in-Open : goal.returns-in-Open
returns-in-Open c =
    on_ok c.answer_worker.result (λ answers (P : Origin). answered_open P (step.Worker c.args.number c.args.asked.now) c.args.self.now c.in-Open.kernel c.answer_worker.new.kernel c.args.line.now c.answer_worker.new.line c.in-Open.is
    (λ S K q. asked_keeps_open S K c.args.number c.args.asked.now q) answers) c.answer_worker.ensures
