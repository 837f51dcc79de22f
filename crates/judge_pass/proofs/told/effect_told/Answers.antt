-- Its own effect, where that gave a number, else one for an earlier call.
use Rattle.std.proofs.Common.{◌≡◌, reverse, None, sym, ◌∙◌, arith}
use Rattle.std.proofs.lemmas.Result.{IfOk-weaker}
use Rattle.history_frames.proofs.Ordinals.{made-place}
use Rattle.broker_verdict.specs.Answers.{gave_at}
use Rattle.broker_verdict.specs.Seats.{effect_of, is_effect}
use Rattle.judge_pass.proofs.Telling.{none_own, own_or_none}
use Rattle.judge_pass.proofs.told.effect_told.Goals as goal

pub returns-in-Some-clause-place : goal.returns-in-Some-clause-place
returns-in-Some-clause-place c = λ P S at h hand.
    let K = reverse c.args.before.now in
    let place = made-place is_effect K c.in-Some.own (omega (arith, h.done_are, c.in-Some.ensures.kept)) in
    let own = c.in-Some.ensures.place P S h in
    own ∙ own_or_none K c.args.worker at place.0 (sym own ∙ place.1)

pub returns-in-None-clause-place : goal.returns-in-None-clause-place
returns-in-None-clause-place c = IfOk-weaker c.remembered.result _ _ (λ found e P S at h hand.
    let K = reverse c.args.before.now in
    let none : gave_at K (effect_of K c.args.worker) ≡ None = none_own K c.args.worker (sym (c.in-None.ensures.place P S h)) in
    rw none (rw hand at (e P S h))) c.remembered.ensures.place
