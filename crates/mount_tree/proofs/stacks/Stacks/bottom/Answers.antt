-- The other node of the newest row is what lies under the node: by `bottom_found`.
use Rattle.mount_tree.proofs.Under.{bottom_found}
use Rattle.mount_tree.proofs.stacks.Stacks.bottom.Goals as goal

pub returns-then-self : goal.returns-then-self
returns-then-self c = λ ms h.
    rw c.other.ensures (bottom_found ms c.args.self.now.bottoms.rows c.args.node (h.fresh c.if-self.true) (h.under c.if-self.true))
