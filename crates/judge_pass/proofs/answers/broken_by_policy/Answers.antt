-- By whether the seat has an effect.
use Rattle.std.proofs.Common.{ap, ◌∙◌}
use Rattle.std.specs.Prelude.{is_some}
use Rattle.std.proofs.lemmas.Result.{IfOk-weaker}
use Rattle.judge_pass.specs.Stands.{place_of_effect}
use Rattle.judge_pass.proofs.InHand.{effect_known}
use Rattle.judge_pass.proofs.answers.broken_by_policy.Goals as goal

pub returns-in-Some : goal.returns-in-Some
returns-in-Some c = λ S K w n id h seat is.
    c.broken_with_effect.ensures c.args.policy.now S K w c.args.call.now.place id (effect_known S K w c.args.seat.now seat ∙ ap is_some c.in-Some.is)

pub returns-in-None : goal.returns-in-None
returns-in-None c = IfOk-weaker c.broken_without_effect.result _ _ (λ found e S K w n id h seat is.
    e S K w n id h seat is (seat.effect_is ∙ ap (place_of_effect K) c.in-None.is)) c.broken_without_effect.ensures
