use Rattle.listener.proofs.Tables.{found-in}
use Rattle.listener.proofs.queue.Queue.caller.Goals as goal

pub returns-in-Some : goal.returns-in-Some
returns-in-Some c names asks = rw (found-in c.args.self.now names c.args.id c.ranges.id.fits, ← c.in-Some.ensures)

pub returns-in-None : goal.returns-in-None
returns-in-None c names asks = rw (found-in c.args.self.now names c.args.id c.ranges.id.fits, ← c.in-None.ensures)
