-- Whether the texts fit is for those to say that are left.
use Rattle.std.proofs.Common.{◌≡◌, length}
use Rattle.broker_verdict.specs.SeatCopies.{fit_parts}
use Rattle.broker_judge.proofs.texts.fit_parts.Given as goal

abbrev pub invariant-loop-part : goal.invariant-loop-part
invariant-loop-part l = fit_parts l.parts l.rest ≡ fit_parts l.initial.parts l.texts

abbrev pub decreases-loop-part : goal.decreases-loop-part
decreases-loop-part l = length l.parts
