use Rattle.std.proofs.Common.{arith, sym}
use Rattle.task_groups.specs.State.{one_more}
use Rattle.task_groups.proofs.Sets.{more-set, same-set}
use Rattle.task_groups.proofs.Stand.{live-lives, numbers}
use Rattle.task_groups.proofs.groups.Groups.opened.Goals as goal

pub returns : goal.returns
returns c s T =
    let o = c.args.o in
    let (l, m) = numbers s c.args.self.now T o c.requires.row c.holders-living.result c.requires.at (c.holders-living.ensures c.requires.row c.requires.at) in
    let some = live-lives s c.args.self.now T o c.requires in
    c.hold.ensures s s.living (one_more s.handles o) T (λ k. some) (λ k. omega (arith, some)) (same-set s.living o _ (sym l)) (more-set s.handles o _ (omega (arith, m)))
