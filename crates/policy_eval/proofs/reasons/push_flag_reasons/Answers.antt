-- One turn adds the reason of the next flag, and seven of them are all.
use Rattle.std.proofs.Common.{◌≡◌, [], rules, arith}
use Rattle.policy_eval.proofs.Lists.{one_more}
use Rattle.hist_model.specs.Decisions.{flag_reason}
use Rattle.policy_eval.specs.declared.reasons.TheConstants.{FLAG_REASONS}
use Rattle.policy_eval.proofs.reasons.push_flag_reasons.Goals as goal

pub loop-name-preserved : goal.loop-name-preserved
loop-name-preserved c = one_more (λ p. flag_reason (p.0.now, p.1)) FLAG_REASONS.now c.loop-name.name-index (record { now = [] }, 0) _ _ _ _ c.loop-name-test.true c.loop-name.invariant c.in_ok-push.ensures.items (search rules)

pub returns : goal.returns
returns c =
    let q : c.loop-name.name-index ≡ 7 = omega arith in
    rw q at c.loop-name.invariant
