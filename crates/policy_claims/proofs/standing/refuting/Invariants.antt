-- Each class so far bears the claim out.
use Rattle.std.proofs.Common.{take}
use Rattle.std.specs.Prelude.{All}
use Rattle.policy_claims.specs.Standings.{BearsClaim}
use Rattle.policy_claims.proofs.standing.refuting.Given as goal

abbrev pub invariant-loop-class : goal.invariant-loop-class
invariant-loop-class l = All (BearsClaim l.sense l.policy.rules l.claim) (take l.class-index l.classes)
