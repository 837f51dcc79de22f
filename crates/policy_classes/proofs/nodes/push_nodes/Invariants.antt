-- The nodes so far are those that there were, and those of the device numbers so far.
use Rattle.std.proofs.Common.{◌≡◌, ◌++◌, take}
use Rattle.policy_classes.specs.Nodes.{nodes_for}
use Rattle.policy_classes.proofs.nodes.push_nodes.Given as goal

abbrev pub invariant-loop-dev : goal.invariant-loop-dev
invariant-loop-dev l = l.nodes.items ≡ l.fn.nodes.items ++ nodes_for l.mode (take l.dev-index l.devices)
