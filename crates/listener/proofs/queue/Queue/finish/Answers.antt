use Rattle.listener.proofs.Tables.{left-in}
use Rattle.listener.proofs.queue.Queue.finish.Goals as goal

pub returns : goal.returns
returns c names asks = rw (c.take.ensures.entries, c.take.ensures.entered, left-in c.args.self.now names c.args.id c.ranges.id.fits)
