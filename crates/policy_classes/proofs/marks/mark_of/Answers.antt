-- By the definition.
use Rattle.policy_classes.proofs.Marked.{mark_begins}
use Rattle.policy_classes.proofs.marks.mark_of.Goals as goal

pub loop-byte-init : goal.loop-byte-init
loop-byte-init c = mark_begins c.args.text.now
