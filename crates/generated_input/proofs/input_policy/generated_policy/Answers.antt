use Rattle.generated_input.proofs.PolicyText.{text_not_refused, text_read_as}
use Rattle.generated_input.proofs.input_policy.generated_policy.Goals as goal

pub returns-in-Ok : goal.returns-in-Ok
returns-in-Ok c = text_read_as c.policy_text.result.now c.in-Ok.policy c.policy_text.ensures c.in-Ok.ensures.accepted

pub unreachable-requires : goal.unreachable-requires
unreachable-requires c =
    let told = rw c.in-Err-Refused.field-0-is at c.in-Err-Refused.ensures in
    text_not_refused c.policy_text.result.now c.in-Err-Refused.field-0-0 c.policy_text.ensures told.refused
