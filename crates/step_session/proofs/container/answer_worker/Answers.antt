use Rattle.std.proofs.Common.{ap, ◌∙◌}
use Rattle.hist_model.specs.declared.history.History.{History}
use Rattle.step_session.proofs.Stepping.{worker-invalid, worker-stepped}
use Rattle.step_session.proofs.Told.{on_ok}
use Rattle.step_session.proofs.container.answer_worker.Goals as goal

pub returns-in-Stepped : goal.returns-in-Stepped
returns-in-Stepped c =
    let came = rw c.in-Stepped.is at c.in_ok-why.ensures in
    on_ok c.push_newest.result (λ added. worker-stepped c.args.kernel.now c.ask.new.kernel c.args.worker c.args.asked.now c.args.line.now c.push_newest.new.line came (λ e H q. added e H (ap (λ (h : History). h.events) c.history.ensures ∙ q))) c.push_newest.ensures

pub returns-in-Invalid : goal.returns-in-Invalid
returns-in-Invalid c =
    let came = rw c.in-Invalid.is at c.in_ok-why.ensures in
    on_ok c.push.result (λ added. worker-invalid c.args.kernel.now c.ask.new.kernel c.args.worker c.args.asked.now c.args.line.now c.push.new.self came added) c.push.ensures
