use Rattle.std.proofs.Common.{◌≡◌}
use Rattle.delay_bounded.specs.Circle.{places}
use Rattle.explorer.specs.Runs.{Comes, able_in, story}
use Rattle.explorer.proofs.run.Run.next_turn.Given as goal

abbrev pub invariant-loop-index : goal.invariant-loop-index
invariant-loop-index l = record {
  same : Comes l.fn.policy l.fn.self (story l.fn.self) l.self;
  number : l.places ≡ places l.workers (story l.fn.self);
  rest : able_in l.fn.policy l.workers l.fn.self l.last l.fn.tried ≡ able_in l.fn.policy l.workers l.fn.self l.last l.index;
}
