use Rattle.std.proofs.Common.{refl, ap, ◌≡◌}
use Rattle.task_groups.proofs.Rows.{row-put, read-row, row-list}
use Rattle.task_groups.specs.Rows.{Row}
use Rattle.task_groups.proofs.groups.Groups.write.Goals as goal

pub returns : goal.returns
returns c sound r at =
    let g = c.index_mut.result.now in
    let s = read-row c.args.self.now.rows.items c.args.o g r c.index_mut.ensures.value at in
    let same : g.pages.items ≡ r.pages = ap (λ (x : Row). x.pages) s in
    let list = row-list c.args.self.now c.args.o r sound at in
    (c.store.new.list.items, row-put c.args.self.now _ c.args.o g _ r _ refl c.index_mut.ensures.value at (ap (λ (x : Row). record x { pages = c.store.new.list.items })) refl refl, (rw same at c.store.ensures) sound.store list)
