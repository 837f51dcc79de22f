-- The rows of the mount are right: by `more_follow`.
use Rattle.std.proofs.Common.{refl}
use Rattle.mount_tree.proofs.Piled.{more_follow}
use Rattle.mount_tree.proofs.stacks.Stacks.put_on_top.Goals as goal

pub returns : goal.returns
returns c = λ ms m t r top h.
    more_follow m ms c.args.self.now _ (rw (t, r) top) c.requires.piled c.add_bottom-bottom.ensures.fresh (rw (t, r) c.add_bottom-bottom.ensures.rows)
    (rw (c.push.ensures.rows, c.add_bottom-bottom.ensures.bottom, c.add_bottom-bottom.ensures.tops, t, r) refl) h
