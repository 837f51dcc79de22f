use Rattle.std.proofs.Common.{arith, map, refl}
use Rattle.crew.proofs.Seen.{each-trans, same-seen}
use Rattle.crew.specs.Locks.{seen_of}
use Rattle.crew.proofs.serving.serve_locked.Goals as goal

pub work_all-requires-clause-count : goal.work_all-requires-clause-count
work_all-requires-clause-count g c κs within = omega (arith, c.in_ok-door.ensures, c.len-containers.ensures, c.requires.few.0)

pub returns-in_err-door-clause-seen : goal.returns-in_err-door-clause-seen
returns-in_err-door-clause-seen g c = same-seen c.args.firsts.now.items c.args.firsts.now.items refl

pub returns-clause-seen : goal.returns-clause-seen
returns-clause-seen g c =
    let before = map seen_of c.args.firsts.now.items in
    let gathered = map seen_of c.gather.new.firsts.items in
    each-trans (map seen_of c.see_ends.new.firsts.items) gathered before c.see_ends.ensures.seen (each-trans gathered (map seen_of c.all_hands.new.firsts.items) before c.gather.ensures.seen c.all_hands.ensures.seen)

pub returns-in_err-close-clause-seen : goal.returns-in_err-close-clause-seen
returns-in_err-close-clause-seen g c =
    let before = map seen_of c.args.firsts.now.items in
    each-trans (map seen_of c.gather.new.firsts.items) (map seen_of c.all_hands.new.firsts.items) before c.gather.ensures.seen c.all_hands.ensures.seen
