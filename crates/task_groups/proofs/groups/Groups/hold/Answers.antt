use Rattle.std.proofs.Common.{[], arith, subst, sym}
use Rattle.task_groups.specs.Pages.{IsLeftByAll, IsStore}
use Rattle.task_groups.specs.declared.pages.Pages.{Pages}
use Rattle.task_groups.specs.Rows.{Row}
use Rattle.task_groups.proofs.Rows.{put-there, put-twice, row-list, moved-left}
use Rattle.task_groups.proofs.Stand.{held-on, held-open, held-none}
use Rattle.task_groups.proofs.groups.Groups.hold.Goals as goal

pub free-requires : goal.free-requires
free-requires c = (_, put-there c.args.self.now c.close_all.new.self c.args.o c.requires.0 _ c.requires.1 (c.close_all.ensures.put c.requires.0 c.requires.1))

pub returns-then-living-gt0 : goal.returns-then-living-gt0
returns-then-living-gt0 c s l h T live some ls hs =
    held-on s c.args.self.now T c.set_holders.new.self c.args.o c.args.living c.args.handles l h c.requires.0 c.requires.1 live some ls hs c.if-living-gt0.true
    (c.set_holders.ensures.put c.requires.0 c.requires.1) c.set_holders.ensures.pages

pub returns-else-handles-eq0 : goal.returns-else-handles-eq0
returns-else-handles-eq0 c s l h T live some ls hs =
    held-open s c.args.self.now T c.close_all.new.self c.args.o c.args.living c.args.handles l h c.requires.0 c.requires.1 live some ls hs (omega arith) (omega arith)
    (c.close_all.ensures.put c.requires.0 c.requires.1) c.close_all.ensures.pages

pub returns-then-handles-eq0 : goal.returns-then-handles-eq0
returns-then-handles-eq0 c s l h T live some ls hs =
    let old = c.args.self.now in
    let mid = c.close_all.new.self in
    let new = c.free.new.self in
    let o = c.args.o in
    let r = c.requires.0 in
    let at = c.requires.1 in
    let shut = c.close_all.ensures.put r at in
    let q : Row = record r { living = 0; handles = c.args.handles; descriptors = [] } in
    let there = put-there old mid o r q at shut in
    let left = subst (λ (P : Pages). IsLeftByAll P r.pages new.pages) c.close_all.ensures.pages (c.free.ensures.left q there) in
    let store = c.free.ensures.store (subst IsStore (sym c.close_all.ensures.pages) T.sound.store) in
    held-none s old T new o c.args.living c.args.handles l h r at live some ls hs (omega arith) (omega arith) (put-twice old mid new o q _ shut (c.free.ensures.put q there))
    (moved-left old.pages new.pages r.pages store (row-list old o r T.sound at) left)
