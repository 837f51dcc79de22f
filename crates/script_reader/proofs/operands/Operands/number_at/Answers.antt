-- The number of an operand, by what was kept of it.
use Rattle.std.proofs.Common.{arith, rules, unwrap_or, ap, ◌∙◌}
use Rattle.std.specs.Prelude.{pos}
use Rattle.std.proofs.lemmas.Grind.{common_steps}
use Rattle.script_reader.proofs.OperandFaults.{number_or_zero}
use Rattle.script_reader.proofs.operands.Operands.number_at.Goals as goal

pub returns : goal.returns
returns c =
    let kept = c.unwrap_or.ensures ∙ (ap (λ n. unwrap_or n (pos 0)) c.number.ensures ∙ number_or_zero c.args.self.now c.args.place) in
    first_of (search (rules, kept), grind (arith, common_steps, kept), grind (arith, common_steps, number_or_zero), cc kept)
