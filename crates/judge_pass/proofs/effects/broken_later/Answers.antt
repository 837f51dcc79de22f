-- The clauses behind the check are those of an effect for the call in hand.
use Rattle.std.proofs.Common.{reverse, sym, ◌∙◌}
use Rattle.std.proofs.lemmas.Result.{IfOk-weaker}
use Rattle.judge_pass.specs.Stands.{IsSeat}
use Rattle.judge_pass.specs.Within.{IsSeatWithin}
use Rattle.judge_pass.proofs.FirstBroken.{later_of_effect, no_later_without_call}
use Rattle.judge_pass.proofs.InHand.{call_kept, hand_is, hand_within, in_hand, no_hand}
use Rattle.judge_pass.proofs.effects.broken_later.Goals as goal

pub broken_of_later-requires-clause-call : goal.broken_of_later-requires-clause-call
broken_of_later-requires-clause-call c =
    let j = c.args.judge.now in
    let seat = c.index-seat.result.now in
    let low : IsSeatWithin j seat = rw (← c.index-seat.ensures) at (c.requires.within.seats c.args.worker seat c.requires.worker) in
    hand_within j seat c.in-Some.call.now c.requires.within low (in_hand j seat c.in-Some.call.now c.in-Some.ensures)

pub returns-in_default : goal.returns-in_default
returns-in_default c = λ h.
    let K = reverse c.args.before.now in
    let j = c.args.judge.now in
    let seat = c.index-seat.result.now in
    let low : IsSeatWithin j seat = rw (← c.index-seat.ensures) at (c.requires.within.seats c.args.worker seat c.requires.worker) in
    let is : IsSeat c.args.script.now K c.args.worker seat = rw (← c.index-seat.ensures) at (h.seats c.args.worker seat c.requires.worker) in
    sym (no_later_without_call c.args.policy.now c.args.script.now K c.args.worker c.args.what.now (no_hand c.args.script.now K j c.args.worker seat is low c.in_default.ensures))

pub returns : goal.returns
returns c = IfOk-weaker c.broken_of_later.result _ _ (λ found e h.
    let K = reverse c.args.before.now in
    let j = c.args.judge.now in
    let P = c.args.policy.now in
    let S = c.args.script.now in
    let seat = c.index-seat.result.now in
    let call = c.in-Some.call.now in
    let hand = in_hand j seat call c.in-Some.ensures in
    let is : IsSeat S K c.args.worker seat = rw (← c.index-seat.ensures) at (h.seats c.args.worker seat c.requires.worker) in
    e c.args.worker hand.number h is (call_kept P S K j c.args.worker seat call h is hand)
    ∙ sym (later_of_effect P S K c.args.worker call.place c.args.what.now (sym c.if-not-is_effect.ensures) (hand_is P S K j c.args.worker seat call h is hand)))
    c.broken_of_later.ensures
