-- The slice answers the rule at its place.
use Rattle.policy_compare.proofs.Rules.{rule_got}
use Rattle.policy_compare.proofs.lines.rule_at.Goals as goal

pub returns : goal.returns
returns c = rule_got c.args.rules.now c.args.place c.get.result c.get.ensures.lookup
