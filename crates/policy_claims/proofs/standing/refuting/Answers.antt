-- Each turn shows that one more class bears the claim out, and at the end all do; a witness that refutes it is a call.
use Rattle.std.proofs.Common.{arith, rules, subst}
use Rattle.std.specs.Prelude.{All}
use Rattle.std.proofs.lemmas.List.{take_all}
use Rattle.std.proofs.lemmas.List.Elements.{All-more}
use Rattle.policy_claims.specs.Standings.{BearsClaim}
use Rattle.policy_claims.proofs.standing.refuting.Goals as goal

pub loop-class-preserved : goal.loop-class-preserved
loop-class-preserved c =
    All-more (BearsClaim c.args.sense c.args.policy.now.rules c.args.claim.now) c.args.classes.now c.loop-class.class-index c.class-item.result (omega arith) c.loop-class.invariant
    (subst (BearsClaim c.args.sense c.args.policy.now.rules c.args.claim.now) c.class-item.is (c.refutes.ensures.no (search rules)))

pub returns-clause-none : goal.returns-clause-none
returns-clause-none c = λ e. subst (All (BearsClaim c.args.sense c.args.policy.now.rules c.args.claim.now)) (take_all c.loop-class.class-index c.args.classes.now (omega arith)) c.loop-class.invariant
