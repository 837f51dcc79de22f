-- The elements are bytes.
use Rattle.policy_classes.proofs.Bytes.{value_within}
use Rattle.policy_lint.proofs.made_calls.is_value_within.Goals as goal

pub returns : goal.returns
returns c = value_within c.args.most c.args.value.now c.type_inv.value
