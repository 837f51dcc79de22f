-- By the outcome of the seat's effect.
use Rattle.std.proofs.Common.{◌≡◌, reverse, ap, ◌∙◌}
use Rattle.std.specs.Prelude.{is_some}
use Rattle.broker_verdict.specs.Answers.{has_failed, outcome_at}
use Rattle.broker_verdict.specs.Seats.{effect_of}
use Rattle.judge_pass.proofs.CameOf.{again, own_outcome}
use Rattle.judge_pass.proofs.InHand.{effect_known}
use Rattle.judge_pass.proofs.effects.is_again.Goals as goal

pub returns-in-Some : goal.returns-in-Some
returns-in-Some c = λ P S w h is.
    let K = reverse c.args.before.now in
    let n = c.in-Some.effect in
    let seat = c.args.seat.now in
    let out : c.outcome.result ≡ outcome_at K (effect_of K w) = c.outcome.ensures P S h ∙ own_outcome P S K w n seat is c.in-Some.is in
    again K w c.has_failed.result (effect_known S K w seat is ∙ ap is_some c.in-Some.is) (c.has_failed.ensures ∙ ap has_failed out)
