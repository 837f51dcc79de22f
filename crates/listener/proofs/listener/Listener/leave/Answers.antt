use Rattle.listener.proofs.Stand.{stands-left}
use Rattle.listener.proofs.listener.Listener.leave.Goals as goal

pub returns : goal.returns
returns c first K e S i = stands-left first K c.args.self.now S e c.args.id _ i (λ names. c.finish.ensures names c.args.self.now.requests)
