use Rattle.std.proofs.Common.{rules, refl, ap, subst, sym, List}
use Rattle.task_groups.specs.Rows.{row_of, HasDescriptorRoomIn, HasEntries, most_pages}
use Rattle.task_groups.specs.declared.descriptors.Descriptor.{Descriptor}
use Rattle.task_groups.proofs.Rows.{same-but-room, group-there, group-put, list-room}
use Rattle.task_groups.proofs.groups.Groups.ready_descriptor.Goals as goal

pub returns-in_err-reserve-clause-same : goal.returns-in_err-reserve-clause-same
returns-in_err-reserve-clause-same c =
    same-but-room c.args.self.now _ c.args.o c.index_mut.result.now _ refl c.index_mut.ensures.value (ap (λ (xs : List Descriptor). record (row_of c.index_mut.result.now) { descriptors = xs }) c.reserve.ensures.items) refl refl refl

pub returns-clause-same : goal.returns-clause-same
returns-clause-same c =
    same-but-room c.args.self.now _ c.args.o c.index_mut.result.now _ refl c.index_mut.ensures.value (ap (λ (xs : List Descriptor). record (row_of c.index_mut.result.now) { descriptors = xs }) c.reserve.ensures.items) refl refl refl

pub returns-clause-room : goal.returns-clause-room
returns-clause-room c =
    subst HasDescriptorRoomIn (sym (group-put c.args.self.now.rows.items c.args.o c.index_mut.result.now _ c.requires.0 c.index_mut.ensures.value c.requires.1)) (search rules)

pub returns-clause-copy : goal.returns-clause-copy
returns-clause-copy c h =
    let gs = c.args.self.now.rows.items in
    record {
      ordinal = h.ordinal;
      row = h.row;
      lists = list-room gs c.args.o c.index_mut.result.now _ c.requires.0 _ _ c.index_mut.ensures.value c.requires.1
          (ap (λ (xs : List Descriptor). record (row_of c.index_mut.result.now) { descriptors = xs }) c.reserve.ensures.items) h.lists;
    }

pub returns-clause-pages : goal.returns-clause-pages
returns-clause-pages c len h =
    let gs = c.args.self.now.rows.items in
    record {
      pages = h.pages;
      entries = subst (λ x. HasEntries x (most_pages len)) (sym (group-put gs c.args.o c.index_mut.result.now _ c.requires.0 c.index_mut.ensures.value c.requires.1))
          (subst (λ x. HasEntries x (most_pages len)) (group-there gs c.args.o c.index_mut.result.now c.requires.0 c.index_mut.ensures.value c.requires.1) h.entries);
    }
