-- The capture has had some answers, and with the reads that are left they make the copy in the plan's order.
use Rattle.std.proofs.Common.{◌≡◌, ℕ, List, [], length}
use Rattle.std.specs.Prelude.{All, Result}
use Rattle.arg_capture.specs.Captures.{Follows}
use Rattle.broker_verdict.specs.SeatCopies.{planned_from}
use Rattle.broker_judge.specs.Copied.{IsAnswered}
use Rattle.broker_judge.proofs.Planned.{of_worth}
use Rattle.broker_judge.proofs.copies.planned_copy.Given as goal

abbrev pub invariant-loop-read : goal.invariant-loop-read
invariant-loop-read l = record {
  answered : All IsAnswered l.rest;
  answers : List (Result (List ℕ) ℕ);
  follows : Follows l.fn.plan answers l.capture;
  goes_on : planned_from l.fn.plan answers (of_worth l.least l.rest) ≡ planned_from l.fn.plan [] (of_worth l.least l.reads);
}

abbrev pub decreases-loop-read : goal.decreases-loop-read
decreases-loop-read l = length l.rest
