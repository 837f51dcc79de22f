-- The row of the mount is right downward: by `aside_follow`.
use Rattle.std.proofs.Common.{refl}
use Rattle.mount_tree.proofs.Piled.{aside_follow}
use Rattle.mount_tree.proofs.stacks.Stacks.put_aside.Goals as goal

pub returns : goal.returns
returns c = λ ms m t r fresh h.
    aside_follow m ms c.args.self.now _ (rw (t, r) fresh) c.add_bottom.ensures.fresh refl (rw (t, r) c.add_bottom.ensures.rows) h
