use Rattle.std.proofs.Common.{rules, refl, ap, subst, sym, List}
use Rattle.task_groups.specs.Rows.{row_of, HasEntries, most_pages}
use Rattle.task_groups.specs.declared.list.PageEntry.{PageEntry}
use Rattle.task_groups.proofs.Rows.{same-but-room, group-put, list-room}
use Rattle.task_groups.proofs.groups.Groups.ready_pages.Goals as goal

pub returns-in_err-reserve-clause-same : goal.returns-in_err-reserve-clause-same
returns-in_err-reserve-clause-same c =
    same-but-room c.args.self.now _ c.args.o c.index_mut.result.now _ refl c.index_mut.ensures.value (ap (λ (xs : List PageEntry). record (row_of c.index_mut.result.now) { pages = xs }) c.reserve.ensures.items) c.ready.ensures.same refl refl

pub returns-clause-same : goal.returns-clause-same
returns-clause-same c =
    same-but-room c.args.self.now _ c.args.o c.index_mut.result.now _ refl c.index_mut.ensures.value (ap (λ (xs : List PageEntry). record (row_of c.index_mut.result.now) { pages = xs }) c.reserve.ensures.items) c.ready.ensures.same refl refl

pub returns-clause-room : goal.returns-clause-room
returns-clause-room c = record {
  pages = search rules;
  entries = subst (λ x. HasEntries x (most_pages c.args.len)) (sym (group-put c.args.self.now.rows.items c.args.o c.index_mut.result.now _ c.requires.0 c.index_mut.ensures.value c.requires.1)) (search rules);
}

pub returns-clause-copy : goal.returns-clause-copy
returns-clause-copy c h =
    let gs = c.args.self.now.rows.items in
    record {
      ordinal = h.ordinal;
      row = h.row;
      lists = list-room gs c.args.o c.index_mut.result.now _ c.requires.0 _ _ c.index_mut.ensures.value c.requires.1
          (ap (λ (xs : List PageEntry). record (row_of c.index_mut.result.now) { pages = xs }) c.reserve.ensures.items) h.lists;
    }
