-- Each turn adds what one more of them asks for.
use Rattle.std.proofs.Common.{arith}
use Rattle.std.specs.Prelude.{◌==◌}
use Rattle.policy_classes.specs.Nodes.{device_asked}
use Rattle.policy_classes.proofs.Gathered.{one_more_asked}
use Rattle.policy_classes.proofs.nodes.devices_asked.Goals as goal

pub loop-atom-preserved : goal.loop-atom-preserved
loop-atom-preserved c =
    one_more_asked (λ m n. m == n) device_asked c.args.atoms.now c.loop-atom.atom-index c.atom-item.result c.atom-item.result c.loop-atom.devices.items
    c.push_device.new.devices.items (omega arith) c.atom-item.is c.loop-atom.invariant c.in_ok-push_device.ensures
