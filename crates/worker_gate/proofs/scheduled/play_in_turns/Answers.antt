-- The turns of the schedule after the start, and the close, are what is played.
use Rattle.std.proofs.Common.{◌∙◌, ap}
use Rattle.std.proofs.lemmas.Result.{IfOk-weaker}
use Rattle.turn_lock.specs.Facts.{PassFacts}
use Rattle.worker_gate.proofs.Schedules.{turns_played}
use Rattle.worker_gate.proofs.scheduled.play_in_turns.Goals as goal

pub returns-clause-events : goal.returns-clause-events
returns-clause-events g c =
    let begun = c.in_ok-served.ensures in
    let lock = c.in-Ok.ensures.lock in
    let opening = ap (λ (p : PassFacts). p.seen) c.in-Ok.ensures.pass ∙ (lock.1 ∙ begun.events) in
    IfOk-weaker c.finish.result _ _
    (λ p same. same ∙ turns_played c.args.policy c.args.script _ _ _ _ (lock.0 ∙ begun.setup) opening (c.close.ensures.state.1 ∙ c.in_ok-play_schedule.ensures.played))
    c.finish.ensures.events
