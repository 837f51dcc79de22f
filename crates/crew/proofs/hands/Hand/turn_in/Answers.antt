use Rattle.std.proofs.Common.{◌<◌, length}
use Rattle.crew.proofs.Passes.{may-at, pass-at, replaced}
use Rattle.crew.proofs.hands.Hand.turn_in.Goals as goal

pub turn-requires-clause-own : goal.turn-requires-clause-own
turn-requires-clause-own g c =
    let within : c.from-place.result < length c.args.locks.now.items = rw c.from-place.ensures c.requires.container in
    pass-at c.args.locks.now.items c.from-place.result c.index.result.now within c.index.ensures c.args.self.now.passes.items c.requires.own c.index_mut.result.now c.index_mut.ensures.value

pub turn-requires-clause-asks : goal.turn-requires-clause-asks
turn-requires-clause-asks g c = λ s found.
    let within : c.from-place.result < length c.args.locks.now.items = rw c.from-place.ensures c.requires.container in
    may-at c.args.self.now.turn.errand.worker c.args.locks.now.items c.from-place.result c.index.result.now c.index_mut.result.now (g.S.Journalled.setup s) c.requires.may within c.index.ensures
    (pass-at c.args.locks.now.items c.from-place.result c.index.result.now within c.index.ensures c.args.self.now.passes.items c.requires.own c.index_mut.result.now c.index_mut.ensures.value)
    found.0

pub returns-clause-own : goal.returns-clause-own
returns-clause-own g c =
    let within : c.from-place.result < length c.args.locks.now.items = rw c.from-place.ensures c.requires.container in
    replaced c.args.locks.now.items c.from-place.result c.index.result.now within c.index.ensures c.args.self.now.passes.items c.requires.own c.index_mut.result.now c.turn.new.pass c.index_mut.ensures.value c.turn.ensures.own
