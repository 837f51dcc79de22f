-- The first tasks, and one more.
use Rattle.std.proofs.Common.{ap, ◌∙◌}
use Rattle.model_kernel.specs.Kernels.{past}
use Rattle.state_answers.specs.Looks.{is_fetched, is_unfetched}
use Rattle.state_answers.proofs.Waits.{waits_else, waits_none, waits_then}
use Rattle.state_answers.proofs.listeners.readiness.Goals as goal
use Rattle.state_answers.proofs.listeners.readiness.Goals.{then-input, else-input, then-output, else-output}

pub loop-task-init : goal.loop-task-init
loop-task-init c = record {
  input = waits_none is_unfetched (past c.args.kernel.now);
  output = waits_none is_fetched (past c.args.kernel.now);
  made = c.tasks-made.ensures c.requires;
}

pub loop-task-preserved : goal.loop-task-preserved
loop-task-preserved c =
    let K = past c.args.kernel.now in
    let n = c.loop-task.task in
    record {
      input = elim c.if-input.branch [
        | then-input w ↦ waits_then is_unfetched K n c.loop-task.input c.if-input.input c.loop-task.invariant.input w.if-input.true (w.input-is ∙ w.if-input.true)
        | else-input w ↦ waits_else is_unfetched K n c.loop-task.input w.is_unfetched-input.result c.if-input.input c.loop-task.invariant.input w.if-input.false w.input-is (w.is_unfetched-input.ensures ∙ ap is_unfetched c.call_state-state.ensures)
      ];
      output = elim c.if-output.branch [
        | then-output w ↦ waits_then is_fetched K n c.loop-task.output c.if-output.output c.loop-task.invariant.output w.if-output.true (w.output-is ∙ w.if-output.true)
        | else-output w ↦ waits_else is_fetched K n c.loop-task.output w.is_fetched-output.result c.if-output.output c.loop-task.invariant.output w.if-output.false w.output-is (w.is_fetched-output.ensures ∙ ap is_fetched c.call_state-state.ensures)
      ];
      made = c.loop-task.invariant.made;
    }
