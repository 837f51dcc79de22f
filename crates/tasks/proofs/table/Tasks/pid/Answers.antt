use Rattle.tasks.specs.Table.{member, table_of}
use Rattle.tasks.proofs.Stood.{row-is}
use Rattle.history_frames.specs.Ordinals.{task_name_of}
use Rattle.tasks.proofs.Asked.{none-named, no-pid}
use Rattle.tasks.proofs.table.Tasks.pid.Goals as goal

pub returns-in-Some : goal.returns-in-Some
returns-in-Some c S K s = (row-is S K (table_of c.args.self.now) s.is_table c.args.o (member c.in-Some.task.now) c.in-Some.ensures.some).pid_is

pub returns-in-None : goal.returns-in-None
returns-in-None c S K s =
    let T = table_of c.args.self.now in
    no-pid S K T s.is_table (task_name_of K c.args.o) (none-named S K T s.is_table c.args.o c.in-None.ensures.none)
