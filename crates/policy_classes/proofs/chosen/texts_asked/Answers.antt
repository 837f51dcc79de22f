-- Each turn adds what one more of them asks for.
use Rattle.std.proofs.Common.{arith}
use Rattle.std.specs.Prelude.{bytes_eq}
use Rattle.policy_classes.specs.Chosen.{text_asked}
use Rattle.policy_classes.proofs.Gathered.{one_more_asked}
use Rattle.policy_classes.proofs.chosen.texts_asked.Goals as goal

pub loop-atom-preserved : goal.loop-atom-preserved
loop-atom-preserved c =
    one_more_asked bytes_eq (text_asked c.args.field) c.args.atoms.now c.loop-atom.atom-index c.atom-item.result c.atom-item.result c.loop-atom.texts.items
    c.push_text.new.texts.items (omega arith) c.atom-item.is c.loop-atom.invariant c.in_ok-push_text.ensures
