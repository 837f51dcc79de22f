use Rattle.std.proofs.Common.{length, map, Some}
use Rattle.mount_tree.specs.Chains.{bucket_of}
use Rattle.mount_tree.specs.Keys.{key_of}
use Rattle.mount_tree.proofs.Chained.{Leads}
use Rattle.mount_tree.proofs.index.Index.find_chained.Given as goal

abbrev pub invariant-loop-place : goal.invariant-loop-place
invariant-loop-place g l =
    let count = length l.self.heads in
    Leads (map g.T.Row.key l.rows) (key_of (Some l.owner) l.name) count (bucket_of count l.owner l.name) (length (map g.T.Row.key l.rows)) l.place

abbrev pub decreases-loop-place : goal.decreases-loop-place
decreases-loop-place g l = l.place
