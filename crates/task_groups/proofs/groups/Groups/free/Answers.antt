use Rattle.std.proofs.Common.{◌≡◌, List, [], refl, ap, rules, subst, ◌∙◌}
use Rattle.task_groups.specs.Pages.{IsLeftByAll}
use Rattle.task_groups.specs.Rows.{Row, row_of}
use Rattle.task_groups.specs.declared.list.PageEntry.{PageEntry}
use Rattle.task_groups.proofs.Rows.{row-put, read-row}
use Rattle.task_groups.proofs.groups.Groups.free.Goals as goal

pub returns-clause-put : goal.returns-clause-put
returns-clause-put c r at =
    let g = c.index_mut.result.now in
    let none : c.replace-list.new.dest.items ≡ [] = search rules in
    row-put c.args.self.now _ c.args.o g _ r _ refl c.index_mut.ensures.value at (λ s. ap (λ (xs : List PageEntry). record (row_of g) { pages = xs }) none ∙ ap (λ (x : Row). record x { pages = [] }) s) refl refl

pub returns-clause-left : goal.returns-clause-left
returns-clause-left c r at =
    let g = c.index_mut.result.now in
    let list : c.deref.result.now ≡ g.pages.items = search rules in
    let s = read-row c.args.self.now.rows.items c.args.o g r c.index_mut.ensures.value at in
    subst (λ (xs : List PageEntry). IsLeftByAll c.args.self.now.pages xs c.leave_all.new.self) (list ∙ ap (λ (x : Row). x.pages) s) c.leave_all.ensures.left
