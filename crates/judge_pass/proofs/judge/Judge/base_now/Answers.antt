-- By the call in hand, or there is none.
use Rattle.std.proofs.Common.{sym, ap, ◌∙◌}
use Rattle.broker_verdict.specs.Seats.{base_now}
use Rattle.hist_model.specs.Trees.{ordinal_of}
use Rattle.judge_pass.specs.Stands.{IsSeat}
use Rattle.judge_pass.specs.Within.{IsSeatWithin}
use Rattle.judge_pass.proofs.InHand.{call_kept, hand_is, hand_within, in_hand, no_hand}
use Rattle.judge_pass.proofs.judge.Judge.base_now.Goals as goal

pub base_for-requires-clause-call : goal.base_for-requires-clause-call
base_for-requires-clause-call c =
    let j = c.args.self.now in
    let seat = c.index.result.now in
    let low : IsSeatWithin j seat = rw (← c.index.ensures) at (c.requires.within.seats c.args.worker seat c.requires.worker) in
    hand_within j seat c.in-Some.call.now c.requires.within low (in_hand j seat c.in-Some.call.now c.in-Some.ensures)

pub returns-in-Some : goal.returns-in-Some
returns-in-Some c P K s =
    let j = c.args.self.now in
    let S = c.args.script.now in
    let seat = c.index.result.now in
    let call = c.in-Some.call.now in
    let hand = in_hand j seat call c.in-Some.ensures in
    let is : IsSeat S K c.args.worker seat = rw (← c.index.ensures) at (s.seats c.args.worker seat c.requires.worker) in
    c.base_for.ensures P K hand.number s (call_kept P S K j c.args.worker seat call s is hand)
    ∙ ap (λ o. base_now S K o (ordinal_of c.args.base)) (sym (hand_is P S K j c.args.worker seat call s is hand))

pub returns-in-None : goal.returns-in-None
returns-in-None c P K s =
    let j = c.args.self.now in
    let S = c.args.script.now in
    let seat = c.index.result.now in
    let low : IsSeatWithin j seat = rw (← c.index.ensures) at (c.requires.within.seats c.args.worker seat c.requires.worker) in
    let is : IsSeat S K c.args.worker seat = rw (← c.index.ensures) at (s.seats c.args.worker seat c.requires.worker) in
    ap (λ o. base_now S K o (ordinal_of c.args.base)) (sym (no_hand S K j c.args.worker seat is low c.in-None.ensures))
