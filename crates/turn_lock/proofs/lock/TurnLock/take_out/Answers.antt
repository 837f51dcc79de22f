use Rattle.std.proofs.Common.{rules, ap}
use Rattle.turn_lock.proofs.Told.{may_exchange}
use Rattle.turn_lock.proofs.lock.TurnLock.take_out.Goals as goal

pub exchange-held-requires : goal.exchange-held-requires
exchange-held-requires g c = let i = c.enter.ensures.turn in (search rules, (_, may_exchange g.S.Journalled.setup g.S.Journalled.history _ _ (ap (λ m. m.1) i.2)))
