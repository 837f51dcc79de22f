-- Of the call that the seat has in hand.
use Rattle.std.proofs.Common.{◌≡◌, ◌<◌, reverse, Some, ap, ◌∙◌}
use Rattle.std.proofs.lemmas.Result.{IfOk-weaker}
use Rattle.hist_model.specs.Kinds.{notifies}
use Rattle.hist_model.specs.Steps.{session_call}
use Rattle.history_frames.specs.Ordinals.{count_of}
use Rattle.history_frames.proofs.Ordinals.{made-place}
use Rattle.judge_pass.specs.Stands.{IsSeat, place_of_call}
use Rattle.judge_pass.proofs.told.remembered.Goals as goal

pub returns-in-Some-clause-place : goal.returns-in-Some-clause-place
returns-in-Some-clause-place c = IfOk-weaker c.remembered_for.result _ _ (λ found e P S h.
    let K = reverse c.args.before.now in
    let seat = c.index-seat.result.now in
    let is : IsSeat S K c.args.worker seat = rw (← c.index-seat.ensures) at (h.seats c.args.worker seat c.requires.worker) in
    let made : c.in-Some.call < count_of notifies K = rw c.in-Some.is at is.call_made in
    let place = made-place notifies K c.in-Some.call made in
    let hand : session_call K c.args.worker ≡ Some place.0 = is.call_is ∙ ap (place_of_call K) c.in-Some.is ∙ place.1 in
    rw hand (e P S c.args.worker place.0 h is.reads_are place.1)) c.remembered_for.ensures.place
