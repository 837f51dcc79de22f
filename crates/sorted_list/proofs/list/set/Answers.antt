use Rattle.sorted_list.proofs.Changed.{set-over, set-between, sum-over, sum-between}
use Rattle.sorted_list.proofs.list.set.Goals as goal

pub returns-in-Ok-clause-set : goal.returns-in-Ok-clause-set
returns-in-Ok-clause-set g c rise = let p = rw (c.deref.ensures.value, c.number.ensures) at c.in-Ok.ensures in set-over g.T.Numbered.number _ _ _ rise (p.found rise)

pub returns-in-Ok-clause-sums : goal.returns-in-Ok-clause-sums
returns-in-Ok-clause-sums g c rise f = let p = rw (c.deref.ensures.value, c.number.ensures) at c.in-Ok.ensures in sum-over g.T.Numbered.number f _ _ _ rise (p.found rise)

pub returns-in-Ok-insert-clause-set : goal.returns-in-Ok-insert-clause-set
returns-in-Ok-insert-clause-set g c rise =
    let p = rw (c.deref.ensures.value, c.number.ensures) at c.in-Err.ensures in
    rw c.in-Ok-insert.ensures.items (set-between g.T.Numbered.number _ _ _ rise (p.absent rise))

pub returns-in-Ok-insert-clause-sums : goal.returns-in-Ok-insert-clause-sums
returns-in-Ok-insert-clause-sums g c rise f =
    let p = rw (c.deref.ensures.value, c.number.ensures) at c.in-Err.ensures in
    rw c.in-Ok-insert.ensures.items (sum-between g.T.Numbered.number f _ _ _ (p.absent rise))
