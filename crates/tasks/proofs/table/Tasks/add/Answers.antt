use Rattle.std.proofs.Common.{refl, arith}
use Rattle.tasks.proofs.Read.{pushed-task}
use Rattle.tasks.proofs.table.Tasks.add.Goals as goal

pub returns : goal.returns
returns c = record {
  tasks = pushed-task c.args.self.now.tasks.items c.push_reserved.new.self.items c.args.task c.push_reserved.ensures.items;
  pids = c.set.ensures.set;
  base = refl;
  top = refl;
  last = refl;
  living = λ l. omega (arith, l);
}
