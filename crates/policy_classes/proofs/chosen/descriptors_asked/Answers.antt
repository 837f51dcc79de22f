-- Each turn adds what one more of them asks for.
use Rattle.std.proofs.Common.{arith}
use Rattle.std.specs.Ordering.{int_eq}
use Rattle.policy_classes.specs.Chosen.{descriptor_asked}
use Rattle.policy_classes.proofs.Gathered.{one_more_asked}
use Rattle.policy_classes.proofs.chosen.descriptors_asked.Goals as goal

pub loop-atom-preserved : goal.loop-atom-preserved
loop-atom-preserved c =
    one_more_asked int_eq descriptor_asked c.args.atoms.now c.loop-atom.atom-index c.atom-item.result c.atom-item.result c.loop-atom.numbers.items
    c.push_descriptor.new.numbers.items (omega arith) c.atom-item.is c.loop-atom.invariant c.in_ok-push_descriptor.ensures
