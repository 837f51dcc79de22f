use Rattle.std.proofs.Common.{◌≡◌, ◌≤◌, length, reverse, take, Some}
use Rattle.mount_tree.specs.Keys.{key_of, newest}
use Rattle.mount_tree.proofs.index.find_in.Given as goal

abbrev pub invariant-loop-left : goal.invariant-loop-left
invariant-loop-left g l =
    (l.left ≤ length l.rows) × (newest g.T.Row.key (reverse (take l.left l.rows)) (key_of (Some l.owner) l.name) ≡ newest g.T.Row.key (reverse l.rows) (key_of (Some l.owner) l.name))

abbrev pub decreases-loop-left : goal.decreases-loop-left
decreases-loop-left g l = l.left
