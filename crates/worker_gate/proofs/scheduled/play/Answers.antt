-- The steps of the schedule after the start, and the close, are what is played.
use Rattle.std.proofs.Common.{◌∙◌}
use Rattle.std.proofs.lemmas.Result.{IfOk-weaker}
use Rattle.worker_gate.proofs.Schedules.{turns_played}
use Rattle.worker_gate.proofs.scheduled.play.Goals as goal

pub returns-clause-events : goal.returns-clause-events
returns-clause-events c =
    let begun = c.in_ok-served.ensures in
    IfOk-weaker c.finish.result _ _ (λ p same. same ∙ turns_played c.args.policy c.args.script _ _ _ _ begun.setup begun.events c.in_ok-play_steps.ensures.played) c.finish.ensures.events
