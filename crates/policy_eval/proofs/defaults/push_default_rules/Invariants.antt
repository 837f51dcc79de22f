use Rattle.std.proofs.Common.{◌≡◌, ◌++◌, map, take}
use Rattle.hist_model.specs.Decisions.{default_rule}
use Rattle.policy_eval.specs.declared.defaults.TheConstants.{CALLS}
use Rattle.policy_eval.proofs.defaults.push_default_rules.Given as goal

abbrev pub invariant-loop-name : goal.invariant-loop-name
invariant-loop-name l = l.rules.items ≡ l.fn.rules.items ++ map (λ p. default_rule p.0.now p.1) (take l.name-index CALLS.now)
