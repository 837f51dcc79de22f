use Rattle.std.proofs.Common.{subst}
use Rattle.std.specs.Prelude.{IfOk}
use Rattle.pod_broker.proofs.Ended.{ends-as}
use Rattle.worker_gate.specs.Endings.{ClosesBehind}
use Rattle.worker_gate.specs.Keeping.{ServedFacts}
use Rattle.pod_broker.proofs.contained.LaneServedContained.close.Goals as goal

pub returns-clause-ended : goal.returns-clause-ended
returns-clause-ended c =
    ends-as c.args.self.setup c.args.self.history.events c.close_listener.result c.requires.done
    (subst (λ (s : ServedFacts). IfOk c.close_listener.result (λ p. ClosesBehind s.history.events p.history.events)) c.into_served.ensures.same c.close_listener.ensures.closed)
