use Rattle.std.proofs.Common.{rules, sym, ◌∙◌}
use Rattle.explorer.proofs.EndsSorted.{first_begins, first_moves, first_stays}
use Rattle.explorer.proofs.ends.first_of.Goals as goal
use Rattle.explorer.proofs.ends.first_of.Goals.{else-is_earlier, then-is_earlier}

pub loop-place-init : goal.loop-place-init
loop-place-init c = record { inside = search rules; so_far = first_begins c.args.ends.now }

pub loop-place-preserved : goal.loop-place-preserved
loop-place-preserved c =
    let ends = c.args.ends.now in
    let i = c.loop-place.invariant in
    let first = c.loop-place.first in
    let place = c.loop-place.place in
    let x = c.index-ends-place.result in
    let y = c.index-ends-first.result in
    elim c.if-is_earlier.branch [
      | then-is_earlier w ↦
          rw w.first-is (record {
            inside = c.loop-place-test.true;
            so_far = first_moves ends first place x y i.inside c.loop-place-test.true c.index-ends-first.is c.index-ends-place.is i.so_far (sym c.is_earlier.ensures ∙ w.if-is_earlier.true);
          })
      | else-is_earlier w ↦
          rw w.first-is (record {
            inside = i.inside;
            so_far = first_stays ends first place x y i.inside c.loop-place-test.true c.index-ends-first.is c.index-ends-place.is i.so_far (sym c.is_earlier.ensures ∙ w.if-is_earlier.false);
          })
    ]
