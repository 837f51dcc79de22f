use Rattle.std.proofs.Common.{ap}
use Rattle.std.proofs.Math.Seq.{map-set_same}
use Rattle.mount_tree.specs.Keys.{attr_key}
use Rattle.mount_tree.proofs.Attributes.{with_value, put_placed}
use Rattle.mount_tree.proofs.table.Table+AttrRow.set_value.Goals as goal

pub invariant_of-self : goal.invariant_of-self
invariant_of-self c =
    let row = with_value c.index_mut.result.now c.args.value in
    let kept = map-set_same attr_key c.self.inside.rows.items c.args.n row c.index_mut.result.now (ap attr_key c.index_mut.ensures.value) in
    (λ some. rw kept (c.self.invariant.0 some), c.self.invariant.1, c.self.invariant.2, c.self.invariant.3, c.self.invariant.4)

pub returns-clause-rows : goal.returns-clause-rows
returns-clause-rows c = λ on name e.
    let put = put_placed c.self.inside.rows.items on name c.args.value c.args.n c.index_mut.result.now (rw (← c.self.view_is) at e) c.index_mut.ensures.value in
    rw (put, ← c.self.view_is)
