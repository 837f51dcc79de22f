-- The digits so far come before those that are left.
use Rattle.std.proofs.Common.{◌≡◌, ◌*◌, ◌^◌, ◌<◌, drop}
use Rattle.lex_core.specs.Numbers.{digits_value}
use Rattle.lex_core.proofs.Values.{behind}
use Rattle.lex_core.proofs.numbers.few_digits_value.Given as goal

abbrev pub invariant-loop-digit : goal.invariant-loop-digit
invariant-loop-digit l = (digits_value l.base l.digits ≡ behind l.base l.value (drop l.digit-index l.digits)) × (l.value < 2 ^ (4 * l.digit-index))
