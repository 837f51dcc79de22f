-- What the tasks so far wait in.
use Rattle.std.proofs.Common.{◌≡◌}
use Rattle.history_frames.specs.Ordinals.{tasks_made}
use Rattle.model_kernel.specs.Kernels.{past}
use Rattle.state_answers.specs.Looks.{is_fetched, is_unfetched, some_waits}
use Rattle.state_answers.proofs.listeners.readiness.Given as goal

abbrev pub invariant-loop-task : goal.invariant-loop-task
invariant-loop-task l = record {
  input : l.input ≡ some_waits is_unfetched (past l.kernel) l.task;
  output : l.output ≡ some_waits is_fetched (past l.kernel) l.task;
  made : l.made ≡ tasks_made (past l.kernel);
}
