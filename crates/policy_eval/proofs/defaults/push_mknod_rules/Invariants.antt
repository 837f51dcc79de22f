use Rattle.std.proofs.Common.{◌≡◌, ◌++◌, map, take}
use Rattle.hist_model.specs.Decisions.{lxd_mknod_rule, safe_devices}
use Rattle.policy_eval.proofs.defaults.push_mknod_rules.Given as goal

abbrev pub invariant-loop-major : goal.invariant-loop-major
invariant-loop-major l = l.rules.items ≡ l.fn.rules.items ++ map (lxd_mknod_rule l.profile) (take l.major-index safe_devices)
