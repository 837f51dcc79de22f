use Rattle.std.proofs.lemmas.List.{length-replicate}
use Rattle.mount_tree.proofs.Chained.{chains_none}
use Rattle.mount_tree.proofs.index.Index.of.Goals as goal

pub loop-row-init : goal.loop-row-init
loop-row-init g c = rw c.in_ok-index.ensures (chains_none c.args.count, length-replicate c.args.count 0)
