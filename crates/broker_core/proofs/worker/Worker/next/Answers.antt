use Rattle.std.proofs.Common.{refl}
use Rattle.broker_core.proofs.Workers.{due_deed}
use Rattle.broker_core.proofs.worker.Worker.next.Goals as goal

pub returns-in-None-clause-deed : goal.returns-in-None-clause-deed
returns-in-None-clause-deed c = λ P own r. due_deed P own c.args.self.now _ (rw c.in-None.is refl) r

pub returns-in-Some-clause-deed : goal.returns-in-Some-clause-deed
returns-in-Some-clause-deed c = λ P own r. due_deed P own c.args.self.now _ (rw c.in-Some.is (c.next.ensures c.args.self.now.figures)) r
