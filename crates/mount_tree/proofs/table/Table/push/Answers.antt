use Rattle.std.proofs.Common.{◌≡◌, true, map, arith}
use Rattle.std.proofs.lemmas.List.{map-append}
use Rattle.mount_tree.proofs.table.Table.push.Goals as goal

pub invariant_of-self : goal.invariant_of-self
invariant_of-self g c =
    let roomy : c.self.inside.roomy ≡ true = rw (← c.self.view_is) at c.requires in
    let below = c.self.invariant.2 roomy in
    let chained = c.push.ensures (map g.T.Row.key c.self.inside.rows.items) c.self.invariant.0 in
    (λ some. rw (c.push_reserved.ensures.items, map-append) (chained some), omega (arith, below, c.push_reserved.ensures.len), λ e. cc, λ e. cc, λ e. cc)
