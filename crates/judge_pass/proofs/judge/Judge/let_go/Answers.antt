-- The call that the seat had in hand may be left.
use Rattle.std.proofs.Common.{◌∙◌, refl}
use Rattle.judge_pass.proofs.HandTests.{hand-below, hand-leaves}
use Rattle.judge_pass.proofs.judge.Judge.let_go.Goals as goal

pub left-requires-clause-call : goal.left-requires-clause-call
left-requires-clause-call c = hand-below c.args.self.now c.args.worker _ c.index.result.now c.requires.within c.requires.worker c.index.ensures c.note_let_go.ensures.calls

pub returns-clause-left : goal.returns-clause-left
returns-clause-left c P S K e s history is at =
    let h = c.left.ensures P S _ (c.note_let_go.ensures.stands P S K e s history (is, at)) in
    hand-leaves P S K e c.args.self.now c.args.worker c.index.result.now _ s c.requires.worker c.index.ensures h ∙ rw is refl
