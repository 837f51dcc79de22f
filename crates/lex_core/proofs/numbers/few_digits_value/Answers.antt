-- At most 15 digits of at most four bits each.
use Rattle.std.proofs.Common.{arith}
use Rattle.lex_core.proofs.Values.{digit_fits, value_fits}
use Rattle.lex_core.proofs.numbers.few_digits_value.Goals as goal

pub overflow_mul-value : goal.overflow_mul-value
overflow_mul-value c =
    let w = digit_fits _ _ _ _ c.loop-digit.invariant.1 c.in_ok-digit.ensures.below c.requires.base in
    let v = value_fits _ _ 15 w (omega arith) in
    omega arith

pub overflow_add-value : goal.overflow_add-value
overflow_add-value c =
    let w = digit_fits _ _ _ _ c.loop-digit.invariant.1 c.in_ok-digit.ensures.below c.requires.base in
    let v = value_fits _ _ 15 w (omega arith) in
    omega arith

pub returns-clause-bound : goal.returns-clause-bound
returns-clause-bound c = value_fits _ _ 15 c.loop-digit.invariant.1 (omega arith)
