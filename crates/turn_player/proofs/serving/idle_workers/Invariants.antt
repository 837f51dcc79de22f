use Rattle.std.proofs.Common.{◌≡◌, ◌≤◌, length, [], vec_capacity}
use Rattle.hist_model.specs.declared.policy.Policy.{Policy}
use Rattle.broker_machine.specs.Workers.{AllRemember}
use Rattle.turn_player.proofs.serving.idle_workers.Given as goal

abbrev pub invariant-loop : goal.invariant-loop
invariant-loop l = record {
  filled : length l.workers.items ≡ l.counter;
  room : 16 ≤ vec_capacity l.workers;
  idle : (P : Policy) → AllRemember P l.figures [] l.workers.items;
}
