-- The id is looked up of the call that the seat has in hand.
use Rattle.judge_pass.specs.Stands.{IsSeat}
use Rattle.judge_pass.specs.Within.{IsSeatWithin}
use Rattle.judge_pass.proofs.HandTests.{own-none, own-some}
use Rattle.judge_pass.proofs.InHand.{call_kept, hand_is, in_hand, no_hand}
use Rattle.judge_pass.proofs.judge.Judge.is_own_id.Goals as goal

pub returns-in-Some : goal.returns-in-Some
returns-in-Some c P S K s =
    let j = c.args.self.now in
    let seat = c.index.result.now in
    let call = c.in-Some.call.now in
    let hand = in_hand j seat call c.in-Some.ensures in
    let is : IsSeat S K c.args.worker seat = rw (← c.index.ensures) at (s.seats c.args.worker seat c.requires.worker) in
    own-some S K c.args.worker c.args.id hand.number call (call_kept P S K j c.args.worker seat call s is hand) (hand_is P S K j c.args.worker seat call s is hand)

pub returns-in-None : goal.returns-in-None
returns-in-None c P S K s =
    let j = c.args.self.now in
    let seat = c.index.result.now in
    let low : IsSeatWithin j seat = rw (← c.index.ensures) at (c.requires.within.seats c.args.worker seat c.requires.worker) in
    let is : IsSeat S K c.args.worker seat = rw (← c.index.ensures) at (s.seats c.args.worker seat c.requires.worker) in
    own-none K c.args.worker c.args.id (no_hand S K j c.args.worker seat is low c.in-None.ensures)
