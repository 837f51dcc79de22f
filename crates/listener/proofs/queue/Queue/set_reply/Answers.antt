use Rattle.listener.proofs.Tables.{answered-in}
use Rattle.listener.proofs.queue.Queue.set_reply.Goals as goal

pub returns : goal.returns
returns c names asks = rw (c.set_reply.ensures.entries, c.set_reply.ensures.entered, answered-in c.args.self.now names c.args.id c.ranges.id.fits c.args.reply)
