-- One more claim, and what is told of it; and at the end these are all.
use Rattle.std.proofs.Common.{arith, List, subst}
use Rattle.std.proofs.lemmas.List.{take_all}
use Rattle.hist_model.specs.declared.policy.Rule.{Rule}
use Rattle.policy_claims.proofs.Findings.{zip_more}
use Rattle.policy_claims.specs.Told.{AreFindings, IsFinding}
use Rattle.policy_claims.proofs.finding.findings.Goals as goal

pub loop-claim-preserved : goal.loop-claim-preserved
loop-claim-preserved c =
    rw c.in_ok-push.ensures.items
    (zip_more (IsFinding c.args.sense c.args.policy.now.rules) c.args.claims.now c.loop-claim.found.items c.loop-claim.claim-index c.claim-item.result c.in_ok-finding_of.field-0 (omega arith) c.claim-item.is c.loop-claim.invariant c.in_ok-finding_of.ensures)

pub returns : goal.returns
returns c = subst (λ (claims : List Rule). AreFindings c.args.sense c.args.policy.now.rules claims c.loop-claim.found.items) (take_all c.loop-claim.claim-index c.args.claims.now (omega arith)) c.loop-claim.invariant
