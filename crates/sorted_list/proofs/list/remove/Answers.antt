use Rattle.sorted_list.proofs.Changed.{set-none, none-removed}
use Rattle.sorted_list.proofs.list.remove.Goals as goal

pub returns-in-Ok : goal.returns-in-Ok
returns-in-Ok g c rise =
    let p = rw c.deref.ensures.value at c.in-Ok.ensures in
    rw c.remove.ensures.items (set-none g.T.Numbered.number _ _ _ rise (p.found rise))

pub returns-in_default : goal.returns-in_default
returns-in_default g c rise = let p = rw c.deref.ensures.value at c.in_default.ensures in none-removed g.T.Numbered.number _ _ _ rise (p.absent rise)
