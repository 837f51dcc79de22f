-- The reads so far are confirmed; those before the first of the loop were so.
use Rattle.std.proofs.Common.{◌≡◌, ◌++◌, map, take, drop}
use Rattle.broker_verdict.specs.Seats.{confirmed}
use Rattle.judge_pass.proofs.seats.Seat.check.Given as goal

abbrev pub invariant-loop-place : goal.invariant-loop-place
invariant-loop-place l = record {
  reads : l.self.reads.items ≡ map (λ r. confirmed r) (take l.place l.fn.self.reads.items) ++ drop l.place l.fn.self.reads.items;
  rest : l.self ≡ record l.fn.self { reads = l.self.reads };
}
