-- What begins as no number names the call that was looked up.
use Rattle.std.proofs.Common.{◌≡◌, ◌^◌, arith, rules, unwrap_or, ap, sym, ◌∙◌, if◌then◌else◌}
use Rattle.std.specs.Prelude.{false, pos}
use Rattle.std.proofs.lemmas.Grind.{common_steps}
use Rattle.script_reader.specs.Statements.{begins_number, bytes_at, call_named, limited_at}
use Rattle.script_reader.proofs.OperandFaults.{call_by_name}
use Rattle.script_reader.proofs.statement.first_call.Goals as goal

pub returns-else-begins_number : goal.returns-else-begins_number
returns-else-begins_number c =
    let operands = c.args.operands.now in
    let name : begins_number (bytes_at operands 0) ≡ false = sym (c.begins_number.ensures ∙ ap begins_number c.bytes_at.ensures) ∙ c.if-begins_number.false in
    let named = c.unwrap_or.ensures ∙ (ap (λ o. unwrap_or o (pos 0)) c.call.ensures ∙ call_by_name operands 0 name) in
    let is_call = named ∙ sym (ap (λ b. if b then pos (limited_at (2 ^ 31) operands 0) else call_named (bytes_at operands 0)) name) in
    first_of (search (rules, is_call), grind (arith, common_steps, is_call), cc is_call)
