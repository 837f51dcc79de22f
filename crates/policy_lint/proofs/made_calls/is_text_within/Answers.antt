-- The elements are bytes.
use Rattle.std.proofs.Common.{not, ap, ◌∙◌}
use Rattle.policy_classes.proofs.Bytes.{text_within}
use Rattle.policy_lint.proofs.made_calls.is_text_within.Goals as goal

pub returns-then-text-most : goal.returns-then-text-most
returns-then-text-most c = ap not c.contains.ensures.value ∙ text_within c.args.most c.args.text.now c.type_inv.text c.if-text-most.true
