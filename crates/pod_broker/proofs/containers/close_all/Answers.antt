use Rattle.std.proofs.Common.{◌≡◌, ◌<◌, All, arith, length, rules, sym, subst}
use Rattle.std.proofs.lemmas.List.Elements.{All-get_or}
use Rattle.crew.proofs.Closing.{others-are}
use Rattle.crew.specs.Locks.{IsDone}
use Rattle.pod_broker.proofs.Closing.{all-closed, first-has, one-closed, others-have}
use Rattle.pod_broker.specs.Serving.{IsClosedAs, IsLimited}
use Rattle.pod_broker.proofs.containers.close_all.Goals as goal

pub close-requires-clause-limited : goal.close-requires-clause-limited
close-requires-clause-limited g c =
    let some : 0 < length c.loop-states.states.items = omega (arith, c.remove-state.ensures.len) in
    first-has g.S.Journalled.setup IsLimited c.loop-states.states.items c.remove-state.result c.loop-states.invariant.limited some c.remove-state.ensures.value

pub close-requires-clause-done : goal.close-requires-clause-done
close-requires-clause-done g c =
    let some : 0 < length c.loop-states.states.items = omega (arith, c.remove-state.ensures.len) in
    let is-done = IsDone g.S.Journalled.setup g.S.Journalled.history g.S.Crewed.ends in
    subst is-done (sym c.remove-state.ensures.value) (All-get_or is-done c.loop-states.states.items 0 c.remove-state.result some c.loop-states.invariant.done)

pub loop-states-preserved : goal.loop-states-preserved
loop-states-preserved g c =
    let i = c.loop-states.invariant in
    let left = c.loop-states.states.items in
    let some : 0 < length left = omega (arith, c.remove-state.ensures.len) in
    let setup = g.S.Journalled.setup in
    let is-done = IsDone setup g.S.Journalled.history g.S.Crewed.ends in
    let closed = IsClosedAs g.S.Contained.keeps in
    record {
      limited = rw c.remove-state.ensures.items (others-have setup IsLimited left i.limited);
      done = subst (All is-done) (sym c.remove-state.ensures.items) (others-are is-done left i.done);
      closes = rw (c.remove-state.ensures.items, c.in_ok-push.ensures.items)
          (one-closed setup closed c.args.states.items left c.loop-states.played.items c.remove-state.result c.in_ok-one.one i.closes some c.remove-state.ensures.value c.in_ok-one.ensures);
    }

pub returns : goal.returns
returns g c =
    let none : length c.loop-states.states.items ≡ 0 = search rules in
    all-closed g.S.Journalled.setup (IsClosedAs g.S.Contained.keeps) c.args.states.items c.loop-states.states.items c.loop-states.played.items c.loop-states.invariant.closes none
