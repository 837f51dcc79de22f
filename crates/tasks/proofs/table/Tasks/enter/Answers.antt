use Rattle.std.proofs.Common.{List, sym, ap, ◌∙◌}
use Rattle.tasks.specs.Table.{Member, table_of, with_entry, with_waiting}
use Rattle.tasks.proofs.Read.{put-task, entered-task, within-task}
use Rattle.tasks.proofs.table.Tasks.enter.Goals as goal

pub returns-in-Some-clause-entered : goal.returns-in-Some-clause-entered
returns-in-Some-clause-entered c t at =
    let T = c.args.self.now in
    let r = c.index_mut-task.result.now in
    ap (λ (xs : List Member). record (table_of T) { tasks = xs })
    (put-task T.tasks.items c.args.o r _ t (with_entry t c.args.child) (within-task T.tasks.items c.args.o t at) c.index_mut-task.ensures.value at
    (entered-task r t _ _ c.args.child c.push_reserved.ensures.items (c.push_reserved-in-Some.ensures.items ∙ ap (with_waiting r.waiting.items) (sym c.in-Some.is))))

pub returns-in_default-clause-entered : goal.returns-in_default-clause-entered
returns-in_default-clause-entered c t at =
    let T = c.args.self.now in
    let r = c.index_mut-task.result.now in
    ap (λ (xs : List Member). record (table_of T) { tasks = xs })
    (put-task T.tasks.items c.args.o r _ t (with_entry t c.args.child) (within-task T.tasks.items c.args.o t at) c.index_mut-task.ensures.value at
    (entered-task r t _ _ c.args.child c.push_reserved.ensures.items (ap (with_waiting r.waiting.items) (sym c.in_default.is))))
