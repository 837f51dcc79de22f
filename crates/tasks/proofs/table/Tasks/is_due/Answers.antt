use Rattle.std.proofs.Common.{ap, ◌∙◌}
use Rattle.std.specs.Prelude.{is_some}
use Rattle.history_frames.specs.Ordinals.{task_name_of}
use Rattle.tasks.specs.Table.{member, row_in, table_of}
use Rattle.tasks.proofs.Asked.{no-task}
use Rattle.tasks.proofs.Stood.{row-is}
use Rattle.tasks.proofs.Told.{due-some}
use Rattle.tasks.proofs.table.Tasks.is_due.Goals as goal

pub returns-in-Some : goal.returns-in-Some
returns-in-Some c S K s l h =
    let T = table_of c.args.self.now in
    let t = member c.in-Some.task.now in
    c.is_some.ensures ∙ (ap is_some c.next_due.ensures ∙ due-some S K (task_name_of K c.args.o) (row_in T.tasks t) c.args.held (row-is S K T s.is_table c.args.o t c.in-Some.ensures.some) h)

pub returns-in-None : goal.returns-in-None
returns-in-None c S K s l = absurd (no-task S K (table_of c.args.self.now) s.is_table c.args.o l c.in-None.ensures.none)
