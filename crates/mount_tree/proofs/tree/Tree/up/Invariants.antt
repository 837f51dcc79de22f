use Rattle.std.proofs.Common.{◌≡◌}
use Rattle.hist_model.specs.Trees.{up_through}
use Rattle.mount_tree.proofs.tree.Tree.up.Given as goal

abbrev pub invariant-loop-left : goal.invariant-loop-left
invariant-loop-left l =
    up_through l.left l.self.tree l.root.ordinal l.ordinal ≡ up_through l.initial.left l.self.tree l.root.ordinal l.initial.ordinal

abbrev pub decreases-loop-left : goal.decreases-loop-left
decreases-loop-left l = l.left
