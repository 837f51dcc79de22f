use Rattle.std.proofs.Common.{◌≡◌}
use Rattle.hist_model.specs.Trees.{top_through}
use Rattle.mount_tree.proofs.tree.Tree.top.Given as goal

abbrev pub invariant-loop-left : goal.invariant-loop-left
invariant-loop-left l = top_through l.left l.self.tree.mounts l.ordinal ≡ top_through l.initial.left l.self.tree.mounts l.initial.ordinal

abbrev pub decreases-loop-left : goal.decreases-loop-left
decreases-loop-left l = l.left
