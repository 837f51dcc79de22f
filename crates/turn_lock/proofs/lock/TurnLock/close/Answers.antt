use Rattle.turn_lock.proofs.Options.{never_none}
use Rattle.turn_lock.proofs.Passes.{closed}
use Rattle.turn_lock.proofs.Told.{at_rest}
use Rattle.turn_lock.proofs.lock.TurnLock.close.Goals as goal

pub unreachable-requires : goal.unreachable-requires
unreachable-requires g c =
    let r = at_rest _ _ c.into_seat.result.me.0 _ c.pass.view_is c.pass.invariant.0 c.into_seat.ensures.2 in
    let o = closed g.S.Journalled.setup g.S.Journalled.history c.self.inside.table.shared.key.value _ _ _ _ _ c.into_seat.result.me.0 c.self.view_is r.0 c.requires.alone r.1 r.2 _ _ c.close_with-closed.ensures.values.2 c.take-held.result c.take-held.ensures.value in
    never_none c.take-held.result o.0.0 o.0.1 c.in_default.is

pub returns-clause-state : goal.returns-clause-state
returns-clause-state g c =
    let r = at_rest _ _ c.into_seat.result.me.0 _ c.pass.view_is c.pass.invariant.0 c.into_seat.ensures.2 in
    let o = closed g.S.Journalled.setup g.S.Journalled.history c.self.inside.table.shared.key.value _ _ _ _ _ c.into_seat.result.me.0 c.self.view_is r.0 c.requires.alone r.1 r.2 _ _ c.close_with-closed.ensures.values.2 c.take-held.result c.take-held.ensures.value in
    o.1 c.in-Some.state c.in-Some.is

pub returns-clause-events : goal.returns-clause-events
returns-clause-events g c =
    let r = at_rest _ _ c.into_seat.result.me.0 _ c.pass.view_is c.pass.invariant.0 c.into_seat.ensures.2 in
    let o = closed g.S.Journalled.setup g.S.Journalled.history c.self.inside.table.shared.key.value _ _ _ _ _ c.into_seat.result.me.0 c.self.view_is r.0 c.requires.alone r.1 r.2 _ _ c.close_with-closed.ensures.values.2 c.take-held.result c.take-held.ensures.value in
    o.2
