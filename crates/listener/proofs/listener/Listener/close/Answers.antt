use Rattle.listener.proofs.Stand.{stands-closed}
use Rattle.listener.proofs.listener.Listener.close.Goals as goal

pub returns : goal.returns
returns c first K e S h = stands-closed first K c.args.self.now S e _ h (λ names. c.close.ensures names c.args.self.now.requests)
