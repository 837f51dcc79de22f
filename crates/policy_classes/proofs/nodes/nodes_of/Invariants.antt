-- The nodes so far are those of the modes so far.
use Rattle.std.proofs.Common.{◌≡◌, [], ◌∷◌, ◌++◌, take}
use Rattle.std.specs.List.{flat_map}
use Rattle.policy_classes.specs.Nodes.{nodes_for}
use Rattle.policy_classes.proofs.nodes.nodes_of.Given as goal

abbrev pub invariant-loop-mode : goal.invariant-loop-mode
invariant-loop-mode l = l.nodes.items ≡ flat_map (λ mode. nodes_for mode (0 ∷ [])) (take l.mode-index l.mode-items)

abbrev pub invariant-loop-mode-2 : goal.invariant-loop-mode-2
invariant-loop-mode-2 l = l.nodes.items ≡ l.initial.nodes.items ++ flat_map (λ mode. nodes_for mode l.devices) (take l.mode-index l.mode-items)
