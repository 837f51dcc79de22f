-- One byte more or fewer is wrong, where it isn't as before.
use Rattle.std.proofs.Common.{◌≡◌, length, arith}
use Rattle.std.specs.Prelude.{set, false}
use Rattle.std.proofs.Math.ListN.{length-set}
use Rattle.broker_judge.proofs.Standing.{count_less, count_more, most_wrong}
use Rattle.broker_judge.proofs.stood.note_at.Goals as goal

pub overflow_add-result : goal.overflow_add-result
overflow_add-result c =
    let more = count_more c.args.right.now c.args.place _ c.requires.place c.if-was.true in
    let most = most_wrong (set c.args.right.now c.args.place false) in
    let same : length (set c.args.right.now c.args.place false) ≡ length c.args.right.now = length-set c.args.right.now c.args.place false in
    grind (arith, more, most, same, c.requires.wrong, c.requires.few)

pub returns-then-is-2-clause-wrong : goal.returns-then-is-2-clause-wrong
returns-then-is-2-clause-wrong c =
    let less = count_less c.args.right.now c.args.place _ c.requires.place c.if-was.false in
    rw c.if-is-2.true (omega (arith, less, c.requires.wrong))

pub overflow_sub-result : goal.overflow_sub-result
overflow_sub-result c =
    let less = count_less c.args.right.now c.args.place _ c.requires.place c.if-was.false in
    omega (arith, less, c.requires.wrong)

pub returns-else-is-clause-wrong : goal.returns-else-is-clause-wrong
returns-else-is-clause-wrong c =
    let more = count_more c.args.right.now c.args.place _ c.requires.place c.if-was.true in
    rw c.if-is.false (omega (arith, more, c.requires.wrong))
