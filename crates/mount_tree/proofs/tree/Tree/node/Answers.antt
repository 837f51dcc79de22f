use Rattle.std.proofs.Common.{◌<◌, length}
use Rattle.std.proofs.lemmas.List.{length-reverse}
use Rattle.mount_tree.proofs.Places.{row_in_past}
use Rattle.mount_tree.proofs.tree.Tree.node.Goals as goal

pub returns : goal.returns
returns c =
    let rows = c.rows.result.now in
    let below : c.args.n.ordinal < length rows = rw (← c.self.view_is, ← c.rows.ensures, length-reverse) at c.requires in
    rw (← c.self.view_is, ← c.rows.ensures, row_in_past rows c.index-rows-n.result c.args.n.ordinal below)
