use Rattle.std.proofs.Common.{arith, sym}
use Rattle.task_groups.specs.State.{one_less}
use Rattle.task_groups.proofs.Sets.{less-set, same-set}
use Rattle.task_groups.proofs.Stand.{numbers}
use Rattle.task_groups.proofs.groups.Groups.closed.Goals as goal

pub returns : goal.returns
returns c s T some =
    let o = c.args.o in
    let (l, m) = numbers s c.args.self.now T o c.requires.0 c.holders-living.result c.requires.1 (c.holders-living.ensures c.requires.0 c.requires.1) in
    c.hold.ensures s s.living (one_less s.handles o) T (λ k. omega (arith, k, l)) (λ k. omega (arith, some)) (same-set s.living o _ (sym l)) (less-set s.handles o _ (omega (arith, m, c.saturating_sub.ensures)))
