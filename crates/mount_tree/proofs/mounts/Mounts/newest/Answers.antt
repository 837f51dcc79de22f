use Rattle.mount_tree.proofs.Found.{newest_none, newest_there}
use Rattle.mount_tree.proofs.mounts.Mounts.newest.Goals as goal

pub returns-in-Some : goal.returns-in-Some
returns-in-Some c =
    let is = c.in-Some.ensures.item in
    rw (← c.self.view_is) (newest_there c.self.inside.rows.rows c.rows.result.now c.in-Some.mount.now c.rows.ensures is.3.0 (is.3.1 c.in-Some.mount.now))

pub returns-in-None : goal.returns-in-None
returns-in-None c = rw (← c.self.view_is) (newest_none c.self.inside.rows.rows c.rows.result.now c.rows.ensures c.in-None.ensures.item.3)
