use Rattle.pod_broker.proofs.Ended.{ends-as}
use Rattle.pod_broker.proofs.contained.ServedContained.close.Goals as goal

pub returns-clause-ended : goal.returns-clause-ended
returns-clause-ended c = ends-as c.args.self.setup c.args.self.history.events c.close_listener.result c.requires.done c.close_listener.ensures.closed
