use Rattle.std.proofs.Common.{[], sym}
use Rattle.tasks.proofs.Named.{pid-none}
use Rattle.tasks.proofs.table.Tasks.child_pid.Goals as goal

pub returns-in-None : goal.returns-in-None
returns-in-None c S K s l = sym (pid-none K _ (c.in-None.ensures.none S K [] s l))
