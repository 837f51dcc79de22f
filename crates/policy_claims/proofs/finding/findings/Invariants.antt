-- Of each claim so far something is told that is so.
use Rattle.std.proofs.Common.{take}
use Rattle.policy_claims.specs.Told.{AreFindings}
use Rattle.policy_claims.proofs.finding.findings.Given as goal

abbrev pub invariant-loop-claim : goal.invariant-loop-claim
invariant-loop-claim l = AreFindings l.sense l.policy.rules (take l.claim-index l.claims) l.found.items
