-- The task has made the steps so far.
use Rattle.model_kernel.specs.Kernels.{past}
use Rattle.asked_steps.specs.Stands.{CameTo}
use Rattle.turn_player.specs.Turns.{after_times, stepped}
use Rattle.turn_player.proofs.turns.step_often.Given as goal

abbrev pub invariant-loop : goal.invariant-loop
invariant-loop l = CameTo l.fn.kernel (after_times (stepped l.fn.kernel.script l.name) (past l.fn.kernel) l.counter) l.kernel
