use Rattle.std.proofs.Common.{refl, ap, ◌≡◌}
use Rattle.task_groups.proofs.Rows.{row-put, read-row}
use Rattle.task_groups.specs.Rows.{Row}
use Rattle.task_groups.proofs.groups.Groups.put.Goals as goal

pub returns-clause-put : goal.returns-clause-put
returns-clause-put c r at =
    let g = c.index_mut.result.now in
    let s = read-row c.args.self.now.rows.items c.args.o g r c.index_mut.ensures.value at in
    let same : g.descriptors.items ≡ r.descriptors = ap (λ (x : Row). x.descriptors) s in
    (c.set.new.entries.items, rw same at c.set.ensures.set, row-put c.args.self.now _ c.args.o g _ r _ refl c.index_mut.ensures.value at (ap (λ (x : Row). record x { descriptors = c.set.new.entries.items })) refl refl)
