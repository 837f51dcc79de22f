-- What is said of the call, where there is a cause.
use Rattle.std.proofs.Common.{◌≡◌, reverse, sym, ◌∙◌}
use Rattle.std.proofs.lemmas.Result.{IfOk-weaker}
use Rattle.broker_verdict.specs.Seats.{reads}
use Rattle.broker_judge.specs.Said.{IsSaid}
use Rattle.judge_pass.proofs.SaidOutcome.{with_cause}
use Rattle.judge_pass.proofs.answers.broken_without_effect.Goals as goal

pub returns : goal.returns
returns c = IfOk-weaker c.broken_by_words.result _ _ (λ found e S K w n id h seat is none.
    let P = c.args.policy.now in
    let at = c.args.call.now.place in
    let same : reads K w ≡ reverse c.as_slice.result.now = rw c.as_slice.ensures.value seat.reads_are in
    let said : IsSaid P K w at c.in_ok-said.said = c.in_ok-said.ensures K w at is.called same in
    e S K w n id h seat is said none ∙ with_cause P S K w at id c.args.back.now (sym (c.if-lacks_cause.ensures P K w at said))) c.broken_by_words.ensures
