use Rattle.std.proofs.Common.{reverse}
use Rattle.mount_tree.proofs.Newest.{found_below}
use Rattle.mount_tree.proofs.table.Table.find.Goals as goal

pub returns-clause-below : goal.returns-clause-below
returns-clause-below g c =
    let found = rw c.as_slice.ensures.value at c.find.ensures in
    rw (← c.self.view_is) (found_below g.T.Row.key (reverse c.self.inside.rows.items) _ _ found)
