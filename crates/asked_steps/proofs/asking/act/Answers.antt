use Rattle.std.proofs.Common.{subst, ◌∙◌}
use Rattle.hist_model.specs.declared.request.Request.{Request}
use Rattle.step_requests.specs.declared.request.Asked.TheVariants as asks
use Rattle.asked_steps.specs.Stands.{Comes}
use Rattle.asked_steps.specs.declared.asking.Came.TheVariants as came
use Rattle.asked_steps.proofs.Asked.{acted}
use Rattle.asked_steps.proofs.asking.act.Goals as goal

pub returns : goal.returns
returns c =
    let k = c.args.kernel.now in
    let new = c.act-answer.new.self in
    subst (λ (q : Request). Comes k c.args.worker (asks.Act q) came.Stepped new) (c.in_ok-request.ensures ∙ c.in_ok-copied.ensures)
    (acted k c.ready_act.new.self new c.args.worker c.in_ok-request.request c.ready_act.ensures.same c.act-answer.ensures.deed)
