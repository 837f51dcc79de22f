use Rattle.hist_model.specs.Decisions.{lxd_mknod_rule, safe_devices}
use Rattle.policy_eval.proofs.Lists.{one_more}
use Rattle.policy_eval.proofs.defaults.push_mknod_rules.Goals as goal

pub loop-major-preserved : goal.loop-major-preserved
loop-major-preserved c = one_more (lxd_mknod_rule c.args.profile) safe_devices c.loop-major.major-index (0, 0) _ _ _ _ c.loop-major-test.true c.loop-major.invariant c.in_ok-push.ensures.items c.in_ok-mknod_rule.ensures
