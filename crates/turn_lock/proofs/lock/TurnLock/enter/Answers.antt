use Rattle.std.proofs.Common.{rules, ap}
use Rattle.turn_lock.proofs.Steps.{claims, looks}
use Rattle.turn_lock.proofs.Told.{waits, waits_on, in_turn}
use Rattle.turn_lock.proofs.lock.TurnLock.enter.Goals as goal

pub fetch_add-mine-requires : goal.fetch_add-mine-requires
fetch_add-mine-requires g c = (search rules, search rules, claims g.S.Journalled.setup g.S.Journalled.history _ _ _ _ c.requires.rests.1 c.requires.rests.2)

pub loop-init : goal.loop-init
loop-init g c = (search rules, waits g.S.Journalled.setup g.S.Journalled.history _ _ _ c.requires.rests c.fetch_add-mine.ensures.2)

pub load-found-requires : goal.load-found-requires
load-found-requires g c = let w = c.loop.invariant.1 in (search rules, search rules, looks g.S.Journalled.setup g.S.Journalled.history _ _ _ _ w.0 (ap (λ m. m.0.stage) w.2))

pub returns-then-found-mine-clause-own : goal.returns-then-found-mine-clause-own
returns-then-found-mine-clause-own g c = search rules

pub returns-then-found-mine-clause-turn : goal.returns-then-found-mine-clause-turn
returns-then-found-mine-clause-turn g c = in_turn g.S.Journalled.setup g.S.Journalled.history c.args.seat.now.me c.loop.seat.me _ _ _ c.loop.invariant.1 c.load-found.ensures.2 (search rules)

pub loop-preserved : goal.loop-preserved
loop-preserved g c = (search rules, waits_on g.S.Journalled.setup g.S.Journalled.history c.args.seat.now.me c.loop.seat.me _ _ _ c.loop.invariant.1 c.load-found.ensures.2 (search rules))
