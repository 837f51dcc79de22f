use Rattle.std.proofs.Common.{◌∙◌, arith}
use Rattle.explorer.proofs.InHand.{all_below}
use Rattle.explorer.proofs.hands.Hands.may_step.Goals as goal

pub returns-else-self-worker : goal.returns-else-self-worker
returns-else-self-worker c = λ K h. rw (← (h c.args.worker c.requires), c.if-self-worker.false) (c.are_full.ensures ∙ all_below K c.args.self.now.full h (omega arith) c.args.worker (omega arith))
