-- The texts that are left fit, and all stood so where these did.
use Rattle.std.proofs.Common.{◌≡◌, true, length}
use Rattle.broker_verdict.specs.SeatCopies.{fit_parts, stood_all}
use Rattle.broker_judge.specs.Copied.{worth_so}
use Rattle.broker_judge.proofs.stood.stood_all.Given as goal

abbrev pub invariant-loop-part : goal.invariant-loop-part
invariant-loop-part l = record {
  fit : fit_parts l.parts l.rest ≡ true;
  stood : stood_all (worth_so l.least l.reads) l.parts l.rest ≡ stood_all (worth_so l.least l.reads) l.initial.parts l.texts;
}

abbrev pub decreases-loop-part : goal.decreases-loop-part
decreases-loop-part l = length l.parts
