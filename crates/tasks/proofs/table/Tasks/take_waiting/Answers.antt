use Rattle.std.proofs.Common.{◌≡◌, ◌<◌, Some, List, length, sym, ap, ◌∙◌, subst}
use Rattle.std.specs.Prelude.{slice_get}
use Rattle.tasks.specs.Table.{Member, table_of, without_waiting}
use Rattle.tasks.proofs.Read.{item-read, put-task, read-same, within-task}
use Rattle.tasks.proofs.table.Tasks.take_waiting.Goals as goal

pub returns : goal.returns
returns c t at =
    let T = c.args.self.now in
    let r = c.index_mut.result.now in
    let l = within-task T.tasks.items c.args.o t at in
    let e = read-same T.tasks.items c.args.o r t l c.index_mut.ensures.value at in
    let z : Some c.requires.0 ≡ Some t = sym c.requires.1 ∙ at in
    let f : c.requires.0 ≡ t = cc in
    let h = subst (λ (m : Member). c.args.place < length m.waiting) (f ∙ sym e) c.requires.2 in (
      ap (λ (m : Member). slice_get m.waiting c.args.place) (sym e) ∙ item-read r.waiting.items c.args.place c.remove.result h c.remove.ensures.value,
      ap (λ (xs : List Member). record (table_of T) { tasks = xs })
          (put-task T.tasks.items c.args.o r _ t (without_waiting t c.args.place) l c.index_mut.ensures.value at (λ q. rw c.remove.ensures.items (ap (λ (x : Member). without_waiting x c.args.place) q))),
    )
