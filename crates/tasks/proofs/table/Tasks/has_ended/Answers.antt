use Rattle.tasks.specs.Table.{member, table_of}
use Rattle.tasks.proofs.Stood.{row-is}
use Rattle.tasks.proofs.Asked.{no-task}
use Rattle.tasks.proofs.table.Tasks.has_ended.Goals as goal

pub returns-in-Some-clause-ended : goal.returns-in-Some-clause-ended
returns-in-Some-clause-ended c S K s l = (row-is S K (table_of c.args.self.now) s.is_table c.args.o (member c.in-Some.task.now) c.in-Some.ensures.some).ended_is

pub returns-in-None-clause-ended : goal.returns-in-None-clause-ended
returns-in-None-clause-ended c S K s l = absurd (no-task S K (table_of c.args.self.now) s.is_table c.args.o l c.in-None.ensures.none)
