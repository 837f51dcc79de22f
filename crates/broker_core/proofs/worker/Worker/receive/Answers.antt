use Rattle.broker_core.proofs.Answered.{begins_if}
use Rattle.broker_core.proofs.worker.Worker.receive.Goals as goal

pub returns-in-Notif-clause-known : goal.returns-in-Notif-clause-known
returns-in-Notif-clause-known c = λ P own r.
    rw c.in-Notif.is (begins_if P.rules own c.begin.new.self.capture c.in-Notif.notif c.begin.new.self.session c.begin.ensures.begun c.begin.ensures.follows)
