use Rattle.std.proofs.Common.{◌≡◌, [], pos, rules, arith, append_assoc}
use Rattle.policy_eval.proofs.Lists.{one_more}
use Rattle.hist_model.specs.Decisions.{default_rule}
use Rattle.policy_eval.specs.declared.defaults.TheConstants.{CALLS}
use Rattle.policy_eval.proofs.defaults.push_default_rules.Goals as goal

pub loop-name-preserved : goal.loop-name-preserved
loop-name-preserved c = one_more (λ p. default_rule p.0.now p.1) CALLS.now c.loop-name.name-index (record { now = [] }, pos 0) _ _ _ _ c.loop-name-test.true c.loop-name.invariant c.in_ok-push_call_rule.ensures (search rules)

pub returns : goal.returns
returns c =
    let q : c.loop-name.name-index ≡ 8 = omega arith in
    rw (c.loop-name.invariant, q, append_assoc) at c.push_default_rule.ensures
