-- The seats so far are idle.
use Rattle.std.proofs.Common.{◌≡◌, length}
use Rattle.judge_pass.specs.Tables.{AreIdle}
use Rattle.judge_pass.proofs.judge.idle_seats.Given as goal

abbrev pub invariant-loop : goal.invariant-loop
invariant-loop l = record {
  filled : length l.seats.items ≡ l.counter;
  idle : AreIdle l.seats.items;
}
