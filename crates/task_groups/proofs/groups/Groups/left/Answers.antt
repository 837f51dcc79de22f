use Rattle.std.proofs.Common.{arith, sym}
use Rattle.task_groups.specs.State.{one_less}
use Rattle.task_groups.proofs.Sets.{less-set, same-set}
use Rattle.task_groups.proofs.Stand.{live-lives, numbers}
use Rattle.task_groups.proofs.groups.Groups.left.Goals as goal

pub returns : goal.returns
returns c s T =
    let o = c.args.o in
    let (l, m) = numbers s c.args.self.now T o c.requires.row c.holders-living.result c.requires.at (c.holders-living.ensures c.requires.row c.requires.at) in
    let some = live-lives s c.args.self.now T o c.requires in
    c.hold.ensures s (one_less s.living o) s.handles T (λ k. some) (λ k. omega (arith, some)) (less-set s.living o _ (omega (arith, l))) (same-set s.handles o _ (sym m))
