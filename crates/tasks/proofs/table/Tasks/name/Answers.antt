use Rattle.tasks.specs.Table.{member, table_of}
use Rattle.tasks.proofs.Stood.{name-is}
use Rattle.tasks.proofs.Asked.{none-named}
use Rattle.tasks.proofs.table.Tasks.name.Goals as goal

pub returns-in-Some-clause-stands : goal.returns-in-Some-clause-stands
returns-in-Some-clause-stands c S K s = rw c.items.ensures (name-is S K (table_of c.args.self.now) s.is_table c.args.o (member c.in-Some.task.now) c.in-Some.ensures.some)

pub returns-in-None-clause-stands : goal.returns-in-None-clause-stands
returns-in-None-clause-stands c S K s = none-named S K (table_of c.args.self.now) s.is_table c.args.o c.in-None.ensures.none
