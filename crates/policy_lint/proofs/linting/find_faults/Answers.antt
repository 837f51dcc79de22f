-- Each turn goes past one more rule, and at the end these are all that the policy states.
use Rattle.std.proofs.Common.{◌≡◌, ◌<◌, arith, subst}
use Rattle.policy_lint.specs.Found.{FoundUpTo}
use Rattle.policy_lint.specs.Own.{own_number}
use Rattle.policy_lint.proofs.linting.find_faults.Goals as goal

pub loop-place-preserved : goal.loop-place-preserved
loop-place-preserved c =
    let own : c.loop-place.place < own_number c.args.rules.now = omega (arith, c.own_number-place-end.ensures.number) in
    c.in_ok-push_fault.ensures c.args.rules.now own c.in_ok-judgement.ensures c.loop-place.invariant

pub returns : goal.returns
returns c =
    let end : c.loop-place.place ≡ own_number c.args.rules.now = omega (arith, c.own_number-place-end.ensures.number) in
    subst (λ n. FoundUpTo c.args.rules.now n c.loop-place.findings.items) end c.loop-place.invariant
