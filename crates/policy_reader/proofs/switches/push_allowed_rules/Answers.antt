-- One turn adds the rules of the next file system.
use Rattle.std.proofs.Common.{◌++◌, ap, ◌∙◌}
use Rattle.hist_model.specs.Decisions.{type_rules}
use Rattle.policy_eval.proofs.Lists.{one_more_list}
use Rattle.policy_reader.proofs.switches.push_allowed_rules.Goals as goal

pub loop-fstype-preserved : goal.loop-fstype-preserved
loop-fstype-preserved c =
    one_more_list (type_rules c.args.profile c.args.shift) c.args.allowed.now c.loop-fstype.fstype-index c.fstype-item.result _ _ _ c.loop-fstype-test.true c.loop-fstype.invariant
    (c.in_ok-push_type_rules.ensures ∙ ap (λ fstype. c.loop-fstype.rules.items ++ type_rules c.args.profile c.args.shift fstype) c.fstype-item.is)
