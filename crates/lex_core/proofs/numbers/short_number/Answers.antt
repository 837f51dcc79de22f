-- The value of the digits is the number's: by `short_number_is`.
use Rattle.std.proofs.Common.{ap, ap₂, arith, length, ◌∙◌}
use Rattle.lex_core.specs.Numbers.{digits_value}
use Rattle.lex_core.proofs.Values.{short_number_is}
use Rattle.lex_core.proofs.numbers.short_number.Goals as goal

pub returns-clause-number : goal.returns-clause-number
returns-clause-number c =
    let form = c.form_of-base.ensures in
    let digits = ap length form.digits in
    short_number_is c.args.bare.now c.few_digits_value.result (c.few_digits_value.ensures.value ∙ ap₂ digits_value form.base form.digits)
    (omega (arith, digits, c.if-count-eq0.false)) (omega (arith, digits, form.most, c.if-count-most.false))
