use Rattle.std.proofs.Common.{◌≡◌, drop}
use Rattle.hist_model.specs.Trees.{with_lines, stated}
use Rattle.mount_tree.proofs.tree.Tree.stated.Given as goal

abbrev pub invariant-loop-line : goal.invariant-loop-line
invariant-loop-line l = with_lines l.tree.tree (drop l.line-index l.lines) ≡ stated l.lines
