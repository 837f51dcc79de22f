use Rattle.tasks.proofs.Counted.{living-is, none-lives}
use Rattle.tasks.proofs.table.Tasks.living.Goals as goal

pub returns-clause-count : goal.returns-clause-count
returns-clause-count c S K s = living-is S K c.args.self.now s

pub returns-clause-none : goal.returns-clause-none
returns-clause-none c S K s = none-lives S K c.args.self.now s
