use Rattle.std.proofs.Common.{◌≡◌, ◌<◌, arith, length, rules}
use Rattle.crew.proofs.Closing.{all-made, one-made}
use Rattle.pod_broker.specs.Serving.{set_up_for}
use Rattle.pod_broker.proofs.containers.set_up_all.Goals as goal

pub loop-alloc-preserved : goal.loop-alloc-preserved
loop-alloc-preserved g c =
    let some : 0 < length c.loop-alloc.containers.items = omega (arith, c.remove-container.ensures.len) in
    rw (c.in_ok-push.ensures.items, c.remove-container.ensures.items)
    (one-made (set_up_for c.args.workers c.args.every) g.S.Journalled.setup c.loop-alloc.states.items c.in_ok-state.state c.remove-container.result c.loop-alloc.containers.items c.args.containers.items c.loop-alloc.invariant some
    c.remove-container.ensures.value c.in_ok-state.ensures)

pub returns : goal.returns
returns g c =
    let none : length c.loop-alloc.containers.items ≡ 0 = search rules in
    all-made (set_up_for c.args.workers c.args.every) g.S.Journalled.setup c.loop-alloc.states.items c.loop-alloc.containers.items c.args.containers.items c.loop-alloc.invariant none
