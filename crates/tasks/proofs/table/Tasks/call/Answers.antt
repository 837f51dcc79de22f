use Rattle.tasks.specs.Table.{member, table_of}
use Rattle.tasks.proofs.Stood.{row-is}
use Rattle.tasks.proofs.table.Tasks.call.Goals as goal

pub returns : goal.returns
returns c S K s l = (row-is S K (table_of c.args.self.now) s.is_table c.args.o (member c.in_ok-task.field-0.now) c.in_ok-task.ensures.some).call_is
