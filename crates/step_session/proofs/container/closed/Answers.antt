use Rattle.std.proofs.Common.{ap, length, ◌++◌, ◌∙◌}
use Rattle.hist_model.specs.Look.{ev}
use Rattle.hist_model.specs.declared.event.Actor.TheVariants.{Listener}
use Rattle.hist_model.specs.declared.event.What.TheVariants.{Close}
use Rattle.model_kernel.specs.Kernels.{past}
use Rattle.step_session.specs.Texts.{event_text}
use Rattle.step_session.proofs.container.closed.Goals as goal

pub returns-clause-line : goal.returns-clause-line
returns-clause-line c =
    let K = past c.ready_event.new.self in
    c.in_ok-push_newest.ensures (ev Listener Close) K c.closed-script.ensures.events ∙ ap (λ H. c.args.line.now ++ event_text (length H) Listener Close) c.ready_event.ensures.past
