-- The requests so far have the nodes so far.
use Rattle.std.proofs.Common.{◌≡◌, map, take}
use Rattle.policy_classes.specs.Changed.{with_node}
use Rattle.policy_classes.proofs.choices.with_nodes.Given as goal

abbrev pub invariant-loop-node : goal.invariant-loop-node
invariant-loop-node l = l.made.items ≡ map (λ n. with_node n l.request) (take l.node-index l.nodes)
