-- The tests of the reads, one after the other.
use Rattle.std.proofs.Common.{false, true, refl, sym, ◌∙◌}
use Rattle.judge_pass.specs.Rests.{AreRests}
use Rattle.judge_pass.proofs.Rested.{rests_break}
use Rattle.judge_pass.proofs.effects.broken_by_reads.Goals as goal
use Rattle.judge_pass.proofs.effects.broken_by_reads.Goals.{then-not-rests-4-via-then-not-rests-4, then-not-rests-4-via-else-not-rests-4+then-lacks_some_check}

pub returns : goal.returns
returns c = λ S K w n h seat is.
    let P = c.args.policy.now in
    let at = c.args.call.now.place in
    let rests = c.in_ok-rests.rests in
    let are : AreRests P K w at c.args.what.now rests = c.in_ok-rests.ensures K w at is.called seat.reads_are in
    sym (rests_break P S K w at c.args.what.now rests false false are (c.if-writes_elsewhere.ensures P S K w n h seat is)
    (c.if-lacks_some_check.ensures S K w at seat is.called)
    ∙ rw (c.if-not-rests.false, c.if-not-rests-2.false, c.if-not-rests-3.false, c.if-not-rests-4.false) refl)

-- there is no whole copy that is checked, or another check is lacking
pub returns-then-not-rests-4 : goal.returns-then-not-rests-4
returns-then-not-rests-4 c = λ S K w n h seat is.
    let P = c.args.policy.now in
    let at = c.args.call.now.place in
    let rests = c.in_ok-rests.rests in
    let are : AreRests P K w at c.args.what.now rests = c.in_ok-rests.ensures K w at is.called seat.reads_are in
    let elsewhere = c.if-writes_elsewhere.ensures P S K w n h seat is in
    elim c.then-not-rests-4.branch [
      | then-not-rests-4-via-then-not-rests-4 v ↦
          sym (rests_break P S K w at c.args.what.now rests false _ are elsewhere refl
          ∙ rw (c.if-not-rests.false, c.if-not-rests-2.false, c.if-not-rests-3.false, v.if-not-rests-4.true) refl)
      | then-not-rests-4-via-else-not-rests-4+then-lacks_some_check v ↦
          sym (rests_break P S K w at c.args.what.now rests false true are elsewhere (v.if-lacks_some_check.ensures S K w at seat is.called)
          ∙ rw (c.if-not-rests.false, c.if-not-rests-2.false, c.if-not-rests-3.false, v.if-not-rests-4.false) refl)
    ]
