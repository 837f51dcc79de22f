-- The line has those of the tasks so far that are able to step.
use Rattle.std.proofs.Common.{◌≡◌, ◌++◌}
use Rattle.history_frames.specs.Ordinals.{tasks_made}
use Rattle.model_kernel.specs.Kernels.{past}
use Rattle.state_answers.specs.Able.{able_tasks}
use Rattle.state_answers.proofs.able.push_tasks.Given as goal

abbrev pub invariant-loop-task : goal.invariant-loop-task
invariant-loop-task l = (l.line ≡ l.fn.line ++ able_tasks l.kernel.script (past l.kernel) l.task) × (l.made ≡ tasks_made (past l.kernel))
