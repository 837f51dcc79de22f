-- What is known so far, with what comes of the parts that are left, is the whole copy.
use Rattle.std.proofs.Common.{◌≡◌, length}
use Rattle.hist_model.specs.Copies.{Progress}
use Rattle.broker_verdict.specs.SeatCopies.{newest_copy}
use Rattle.broker_judge.specs.Copied.{Comes, worth_so}
use Rattle.broker_judge.proofs.Joined.{joined}
use Rattle.broker_judge.proofs.copies.newest_copy.Given as goal

abbrev pub invariant-loop-part : goal.invariant-loop-part
invariant-loop-part l = record {
  known : Progress;
  comes : Comes known l.copied;
  whole : joined known (newest_copy (worth_so l.least l.reads) l.parts) ≡ newest_copy (worth_so l.least l.reads) l.initial.parts;
}

abbrev pub decreases-loop-part : goal.decreases-loop-part
decreases-loop-part l = length l.parts
