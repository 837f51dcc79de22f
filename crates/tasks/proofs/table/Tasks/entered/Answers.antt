use Rattle.tasks.specs.Table.{member, table_of}
use Rattle.tasks.proofs.Stood.{row-is}
use Rattle.history_frames.specs.Ordinals.{task_name_of}
use Rattle.tasks.proofs.Asked.{entered-at}
use Rattle.tasks.proofs.Places.{entered-waiting, entered-owing}
use Rattle.tasks.proofs.table.Tasks.entered.Goals as goal

pub returns-clause-last : goal.returns-clause-last
returns-clause-last c S K s l = (row-is S K (table_of c.args.self.now) s.is_table c.args.o (member c.in_ok-task.field-0.now) c.in_ok-task.ensures.some).entered_is

pub returns-clause-waits : goal.returns-clause-waits
returns-clause-waits c S K call s l q =
    let n = task_name_of K c.args.o in
    let i = row-is S K (table_of c.args.self.now) s.is_table c.args.o (member c.in_ok-task.field-0.now) c.in_ok-task.ensures.some in
    entered-at K n call _ s.is_table.sound q i.entered_is (entered-waiting S K n _ i (call, q))

pub returns-clause-owes : goal.returns-clause-owes
returns-clause-owes c S K s l q =
    let n = task_name_of K c.args.o in
    entered-owing S K n _ (row-is S K (table_of c.args.self.now) s.is_table c.args.o (member c.in_ok-task.field-0.now) c.in_ok-task.ensures.some) q
