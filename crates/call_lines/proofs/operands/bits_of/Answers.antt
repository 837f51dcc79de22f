-- One turn adds the bit of the next name.
use Rattle.std.proofs.Common.{◌≡◌, Err, w32, rules, ◌∙◌}
use Rattle.std.proofs.lemmas.Int.{to_z-of_z}
use Rattle.call_lines.proofs.Bits.{all_read, ends_there, one_more}
use Rattle.call_lines.proofs.operands.bits_of.Goals as goal

pub returns-in_err-bits : goal.returns-in_err-bits
returns-in_err-bits c =
    let same = to_z-of_z w32 c.args.nr c.ranges.nr in
    let failed : c.from_residual.result ≡ Err c.in_err-bits.field-0.0 = search rules in
    let before = rw same at c.loop-name.invariant in
    let unknown = rw same at c.in_err-bits.ensures in
    rw failed (ends_there c.args.nr c.loop-name.bits c.args.names.now c.loop-name.name-index _ c.in_err-bits.field-0.0 before c.loop-name-test.true unknown)

pub loop-name-preserved : goal.loop-name-preserved
loop-name-preserved c =
    c.loop-name.invariant
    ∙ one_more _ c.loop-name.bits c.in_ok-bits.field-0 c.args.names.now c.loop-name.name-index _ c.loop-name-test.true c.in_ok-bits.ensures

pub returns : goal.returns
returns c =
    let same = to_z-of_z w32 c.args.nr c.ranges.nr in
    let before = rw same at c.loop-name.invariant in
    before ∙ all_read c.args.nr c.loop-name.bits c.args.names.now c.loop-name.name-index c.loop-name-test.false
