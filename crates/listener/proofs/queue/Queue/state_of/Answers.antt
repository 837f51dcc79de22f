use Rattle.std.proofs.Common.{sym, arith}
use Rattle.std.proofs.lemmas.Bool.{lt-ltb, le-ltb}
use Rattle.listener.proofs.Tables.{found-in, found-number}
use Rattle.listener.proofs.queue.Queue.state_of.Goals as goal

pub returns-in_default : goal.returns-in_default
returns-in_default c names asks = rw (found-in c.args.self.now names c.args.id c.ranges.id.fits, ← c.in_default.ensures)

pub returns-then-number-self : goal.returns-then-number-self
returns-then-number-self c names asks = rw (found-in c.args.self.now names c.args.id c.ranges.id.fits, ← c.in-Some.ensures) (rw (le-ltb c.in-Some.call.number c.args.self.now.fetched (omega (arith, found-number _ c.args.self.now.order.entries.items c.in-Some.call (sym c.in-Some.ensures), c.if-number-self.true))))

pub returns-in-Some-reply : goal.returns-in-Some-reply
returns-in-Some-reply c names asks = rw (found-in c.args.self.now names c.args.id c.ranges.id.fits, ← c.in-Some.ensures) (rw (lt-ltb c.in-Some.call.number c.args.self.now.fetched (omega (arith, found-number _ c.args.self.now.order.entries.items c.in-Some.call (sym c.in-Some.ensures), c.if-number-self.false)), c.in-Some-reply.is))

pub returns-in-None : goal.returns-in-None
returns-in-None c names asks = rw (found-in c.args.self.now names c.args.id c.ranges.id.fits, ← c.in-Some.ensures) (rw (lt-ltb c.in-Some.call.number c.args.self.now.fetched (omega (arith, found-number _ c.args.self.now.order.entries.items c.in-Some.call (sym c.in-Some.ensures), c.if-number-self.false)), c.in-None.is))
