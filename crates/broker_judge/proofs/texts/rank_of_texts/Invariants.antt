-- The texts that are left fit, and all rest so far as those before them and these do.
use Rattle.std.proofs.Common.{◌≡◌, true, length}
use Rattle.std.specs.Prelude.{◌&&◌, nat_le}
use Rattle.broker_verdict.specs.SeatCopies.{fit_parts, gives_texts}
use Rattle.broker_verdict.specs.Seats.{rank}
use Rattle.broker_judge.specs.Copied.{worth_so}
use Rattle.broker_judge.specs.Reads.{worth_of}
use Rattle.broker_judge.specs.declared.reads.Worth.{Worth}
use Rattle.broker_judge.proofs.texts.rank_of_texts.Given as goal

abbrev pub invariant-loop-part : goal.invariant-loop-part
invariant-loop-part l = record {
  fit : fit_parts l.parts l.rest ≡ true;
  rests : (least : Worth) → (nat_le (rank (worth_of least)) l.found && gives_texts (worth_so least l.reads) l.parts l.rest) ≡ gives_texts (worth_so least l.reads) l.initial.parts l.texts;
}

abbrev pub decreases-loop-part : goal.decreases-loop-part
decreases-loop-part l = length l.parts
