use Rattle.std.proofs.Common.{arith}
use Rattle.explorer.proofs.InHand.{noted}
use Rattle.explorer.proofs.hands.Hands.note.Goals as goal

pub returns : goal.returns
returns c = λ K h w lt. rw c.full_after.ensures (noted K c.args.self.now.full h (omega arith) c.args.worker c.args.what.now c.requires.steps w lt)
