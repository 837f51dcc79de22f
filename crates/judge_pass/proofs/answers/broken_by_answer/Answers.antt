-- The clauses are those of an answer for the call in hand, or there is none.
use Rattle.std.proofs.Common.{reverse, sym, ◌∙◌}
use Rattle.std.proofs.lemmas.Result.{IfOk-weaker}
use Rattle.judge_pass.specs.Stands.{IsSeat}
use Rattle.judge_pass.specs.Within.{IsSeatWithin}
use Rattle.judge_pass.proofs.FirstBroken.{answer_without_call, first_of_answer}
use Rattle.judge_pass.proofs.InHand.{call_kept, hand_is, in_hand, no_hand}
use Rattle.judge_pass.proofs.answers.broken_by_answer.Goals as goal

pub returns-in_default : goal.returns-in_default
returns-in_default c = λ S h.
    let K = reverse c.args.before.now in
    let j = c.args.judge.now in
    let seat = c.index-seat.result.now in
    let low : IsSeatWithin j seat = rw (← c.index-seat.ensures) at (c.requires.within.seats c.args.worker seat c.requires.worker) in
    let is : IsSeat S K c.args.worker seat = rw (← c.index-seat.ensures) at (h.seats c.args.worker seat c.requires.worker) in
    sym (answer_without_call c.args.policy.now S K c.args.worker c.args.id c.args.back.now c.args.answer.now (no_hand S K j c.args.worker seat is low c.in_default.ensures))

pub returns : goal.returns
returns c = IfOk-weaker c.broken_for_call.result _ _ (λ found e S h.
    let K = reverse c.args.before.now in
    let j = c.args.judge.now in
    let P = c.args.policy.now in
    let w = c.args.worker in
    let seat = c.index-seat.result.now in
    let call = c.in-Some.call.now in
    let hand = in_hand j seat call c.in-Some.ensures in
    let is : IsSeat S K w seat = rw (← c.index-seat.ensures) at (h.seats w seat c.requires.worker) in
    let at = hand_is P S K j w seat call h is hand in
    e S hand.number h (call_kept P S K j w seat call h is hand) at
    ∙ sym (first_of_answer P S K w call.place c.args.id c.args.back.now c.args.answer.now at))
    c.broken_for_call.ensures
