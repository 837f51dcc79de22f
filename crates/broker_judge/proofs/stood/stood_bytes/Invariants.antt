-- The bytes are noted as the reads give them that were gone through, which never gave all.
use Rattle.std.proofs.Common.{◌≡◌, List, ◌++◌, length, false}
use Rattle.broker_verdict.specs.Seats.{SeatRead}
use Rattle.broker_judge.specs.Copied.{worth_so}
use Rattle.broker_judge.specs.Stood.{stood_from, wrong_in}
use Rattle.broker_judge.proofs.Standing.{AreGiven}
use Rattle.broker_judge.proofs.stood.stood_bytes.Given as goal

abbrev pub invariant-loop-read : goal.invariant-loop-read
invariant-loop-read l = record {
  before : List SeatRead;
  all : before ++ l.rest ≡ l.reads;
  size : length l.right.items ≡ length l.wanted;
  wrong : l.wrong ≡ wrong_in l.right.items;
  given : AreGiven (worth_so l.least before) l.addr l.wanted l.right.items;
  never : stood_from (worth_so l.least before) l.addr l.wanted ≡ false;
}

abbrev pub decreases-loop-read : goal.decreases-loop-read
decreases-loop-read l = length l.rest
