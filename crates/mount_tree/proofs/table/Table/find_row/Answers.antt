use Rattle.std.proofs.Common.{◌∙◌, ap, sym, Some}
use Rattle.mount_tree.specs.Keys.{key_of}
use Rattle.mount_tree.proofs.Newest.{newest_past, newest_absent}
use Rattle.mount_tree.proofs.table.Table.find_row.Goals as goal

pub returns-in-Some-clause-some : goal.returns-in-Some-clause-some
returns-in-Some-clause-some g c =
    let k = key_of (Some c.args.owner) c.args.name.now in
    let found = newest_past g.T.Row.key c.rows.result.now k c.in-Some.n c.index-rows-n.result (rw c.rows.ensures c.in-Some.ensures.found) in
    rw (← c.rows.ensures) (found ∙ ap Some (sym c.index-rows-n.is))

pub returns-in-None-clause-none : goal.returns-in-None-clause-none
returns-in-None-clause-none g c = newest_absent g.T.Row.key c.args.self.now.rows (key_of (Some c.args.owner) c.args.name.now) c.in-None.ensures.found
