use Rattle.std.proofs.Common.{◌≡◌, ◌-◌, ◌<◌, length, sym, ◌∙◌, arith}
use Rattle.mount_tree.specs.Keys.{newest}
use Rattle.mount_tree.proofs.Newest.{newest_here, newest_passed}
use Rattle.mount_tree.proofs.index.find_in.Goals as goal

pub returns-then-is_key : goal.returns-then-is_key
returns-then-is_key g c =
    let n = c.loop-left.left - 1 in
    let within : n < length c.args.rows.now = omega arith in
    sym (newest_here g.T.Row.key _ c.args.rows.now n c.loop-left.left c.index-rows-left.result (omega arith) within (rw (← c.index-rows-left.is) (sym c.is_key.ensures ∙ c.if-is_key.true)))
    ∙ c.loop-left.invariant.1

pub loop-left-preserved : goal.loop-left-preserved
loop-left-preserved g c =
    let n = c.loop-left.left - 1 in
    let within : n < length c.args.rows.now = omega arith in (
      omega arith,
      sym (newest_passed g.T.Row.key _ c.args.rows.now n c.loop-left.left c.index-rows-left.result (omega arith) within (rw (← c.index-rows-left.is) (sym c.is_key.ensures ∙ c.if-is_key.false)))
          ∙ c.loop-left.invariant.1,
    )

pub returns : goal.returns
unfolding newest
returns g c = let none : c.loop-left.left ≡ 0 = omega arith in rw none at c.loop-left.invariant.1
