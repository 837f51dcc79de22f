-- The worker has made the steps so far, and remembers them.
use Rattle.model_kernel.specs.Kernels.{past}
use Rattle.asked_steps.specs.Stands.{CameTo}
use Rattle.turn_player.specs.Serving.{Knows}
use Rattle.turn_player.specs.Turns.{after_times, served}
use Rattle.turn_player.proofs.serving.serve_often.Given as goal

abbrev pub invariant-loop : goal.invariant-loop
invariant-loop l = record {
  came : CameTo l.fn.kernel (after_times (served l.policy l.fn.kernel.script l.number) (past l.fn.kernel) l.counter) l.kernel;
  knows : Knows l.policy l.kernel l.number l.worker;
}
