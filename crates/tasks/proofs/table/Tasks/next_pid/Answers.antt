use Rattle.tasks.specs.Table.{table_of}
use Rattle.tasks.proofs.Asked.{next-some, next-none}
use Rattle.tasks.proofs.table.Tasks.next_pid.Goals as goal

pub returns-in-Some : goal.returns-in-Some
returns-in-Some c S K s = next-some S K (table_of c.args.self.now) s.is_table c.in-Some.pid (c.in-Some.ensures S K s)

pub returns-in-None : goal.returns-in-None
returns-in-None c S K s = next-none S K (table_of c.args.self.now) s.is_table c.free_pid-in-None.result (c.in-None.ensures S K s) (c.free_pid-in-None.ensures S K s)
