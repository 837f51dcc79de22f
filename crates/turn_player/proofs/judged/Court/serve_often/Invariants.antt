-- The worker has made the steps so far, and remembers them, unless a clause is broken.
use Rattle.model_kernel.specs.Kernels.{past}
use Rattle.turn_player.specs.Judged.{IsPlayed, StillKnows}
use Rattle.turn_player.specs.Turns.{after_times, served}
use Rattle.turn_player.proofs.judged.Court.serve_often.Given as goal

abbrev pub invariant-loop : goal.invariant-loop
invariant-loop l = record {
  played : IsPlayed l.policy l.fn.self (after_times (served l.policy l.fn.self.kernel.script l.number) (past l.fn.self.kernel) l.counter) l.self;
  knows : StillKnows l.policy l.self l.number l.worker;
}
