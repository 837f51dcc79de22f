use Rattle.std.proofs.Common.{◌≡◌, length, map, take}
use Rattle.mount_tree.specs.Chains.{AreChains}
use Rattle.mount_tree.proofs.index.Index.of.Given as goal

abbrev pub invariant-loop-row : goal.invariant-loop-row
invariant-loop-row g l = AreChains (map g.T.Row.key (take l.row-index l.rows)) l.index × (length l.index.heads ≡ l.count)
