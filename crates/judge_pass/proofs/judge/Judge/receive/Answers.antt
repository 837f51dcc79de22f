-- The call that the seat had in hand may be left.
use Rattle.std.proofs.Common.{◌∙◌, refl}
use Rattle.judge_pass.proofs.HandTests.{hand-below, hand-leaves}
use Rattle.judge_pass.proofs.judge.Judge.receive.Goals as goal

pub left-requires-clause-call : goal.left-requires-clause-call
left-requires-clause-call c = hand-below c.args.self.now c.args.number _ c.index.result.now c.requires.within c.requires.worker (rw c.from.ensures at c.index.ensures) c.note_received.ensures.calls

pub returns-clause-left : goal.returns-clause-left
returns-clause-left c notif q P S K e s history is at =
    let h = c.left.ensures P S _ (c.note_received.ensures.stands notif q P S K e s history (is, at)) in
    hand-leaves P S K e c.args.self.now c.args.number c.index.result.now _ s c.requires.worker (rw c.from.ensures at c.index.ensures) h ∙ rw is refl
