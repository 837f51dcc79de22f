use Rattle.tasks.proofs.Counted.{living_in-most, living_in-some}
use Rattle.tasks.proofs.Told.{ended-is, made-is}
use Rattle.tasks.proofs.laws.living_tasks_are_counted.Goals as goal

pub returns-clause-made : goal.returns-clause-made
returns-clause-made c S K T s = made-is S K T s

pub returns-clause-ended : goal.returns-clause-ended
returns-clause-ended c S K T o s l = ended-is S K T o s l

pub returns-clause-some : goal.returns-clause-some
returns-clause-some c T o h = living_in-some T o h

pub returns-clause-most : goal.returns-clause-most
returns-clause-most c T g = living_in-most T g
