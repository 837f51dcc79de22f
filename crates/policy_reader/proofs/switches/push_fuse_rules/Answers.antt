-- One turn adds the rules of the next file system.
use Rattle.std.proofs.Common.{◌++◌, ap, ◌∙◌}
use Rattle.hist_model.specs.Decisions.{pair_rules}
use Rattle.policy_eval.proofs.Lists.{one_more_list}
use Rattle.policy_reader.proofs.switches.push_fuse_rules.Goals as goal

pub loop-pair-preserved : goal.loop-pair-preserved
loop-pair-preserved c =
    one_more_list (pair_rules c.args.profile c.args.shift) c.args.fuse.now c.loop-pair.pair-index c.pair-item.result _ _ _ c.loop-pair-test.true c.loop-pair.invariant
    (c.in_ok-push_pair_rules.ensures ∙ ap (λ pair. c.loop-pair.rules.items ++ pair_rules c.args.profile c.args.shift pair) c.pair-item.is)
