use Rattle.std.proofs.Common.{refl, rules, sym}
use Rattle.listener.proofs.Tables.{entries, oldest-first, fetched-to}
use Rattle.listener.specs.Table.{row}
use Rattle.listener.proofs.queue.Queue.fetch.Goals as goal

pub returns-in_default-clause-gone : goal.returns-in_default-clause-gone
returns-in_default-clause-gone c w names asks = (search rules, rw (oldest-first c.args.self.now.first c.args.self.now.fetched names c.args.self.now.order.entries.items, ← c.in_default.ensures.first), refl)

pub returns-clause-next : goal.returns-clause-next
returns-clause-next c names asks = record { counted = search rules; next = row c.args.self.now.first c.args.self.now.fetched names c.in-Some.entry; oldest_is = rw (oldest-first c.args.self.now.first c.args.self.now.fetched names c.args.self.now.order.entries.items, ← c.in-Some.ensures.first); id_is = refl; task_is = refl }

pub returns-clause-step : goal.returns-clause-step
returns-clause-step c names asks = rw (fetched-to c.args.self.now.first c.args.self.now.fetched c.args.self.now.order.entered names c.args.self.now.order.entries.items c.in-Some.entry (entries c.args.self.now) c.args.self.now.order.rising c.in-Some.ensures.below (sym c.in-Some.ensures.first))
