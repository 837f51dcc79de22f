use Rattle.std.proofs.Common.{◌≡◌, ◌+◌, ◌∙◌, sym, refl, drop, true, slice_index_or}
use Rattle.std.specs.List.{list_all}
use Rattle.hist_model.specs.Words.{is_digit}
use Rattle.plain_words.proofs.Digits.{digits_step, number_step, power_step, digit_small, ended}
use Rattle.plain_words.proofs.numbers.digits.Goals as goal

pub loop-b-preserved : goal.loop-b-preserved
loop-b-preserved c =
    let w = c.args.word.now in
    let i = c.loop-b.b-index in
    let b = slice_index_or w i 0 in
    let d : is_digit b ≡ true = sym c.is_digit.ensures ∙ c.if-not-is_digit.false in
    let s : list_all is_digit (drop i w) ≡ list_all is_digit (drop (i + 1) w) = digits_step w i 0 c.loop-b-test.true ∙ rw d refl in
    record {
      digits = sym s ∙ c.loop-b.invariant.digits;
      same = rw c.from.ensures (sym (number_step w i 0 c.loop-b.value c.loop-b-test.true) ∙ c.loop-b.invariant.same);
      small = power_step i c.loop-b.value c.from.result c.loop-b.invariant.small (rw c.from.ensures (digit_small b d));
    }

pub returns : goal.returns
returns c = ended c.args.word.now c.loop-b.b-index c.loop-b.value c.loop-b-test.false c.loop-b.invariant.digits c.loop-b.invariant.same
