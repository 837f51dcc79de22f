-- The task has made the steps so far, unless a clause is broken.
use Rattle.model_kernel.specs.Kernels.{past}
use Rattle.turn_player.specs.Judged.{IsPlayed}
use Rattle.turn_player.specs.Turns.{after_times, stepped}
use Rattle.turn_player.proofs.judged.Court.step_often.Given as goal

abbrev pub invariant-loop : goal.invariant-loop
invariant-loop l = IsPlayed l.policy l.fn.self (after_times (stepped l.fn.self.kernel.script l.name) (past l.fn.self.kernel) l.counter) l.self
