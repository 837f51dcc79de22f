use Rattle.worker_gate.proofs.Continuing.{task_may, task_tried, went_on}
use Rattle.worker_gate.proofs.served.Serving.step_task.Goals as goal

pub returns-then-is_task-clause-goes_on : goal.returns-then-is_task-clause-goes_on
returns-then-is_task-clause-goes_on c =
    let old = c.args.self.now in
    went_on old.policy old.limit old.machine _ c.requires.kept _ (task_may old.limit _) c.try_task.result c.try_task.ensures.done c.try_task.ensures.same

pub returns-then-is_task-clause-step : goal.returns-then-is_task-clause-step
returns-then-is_task-clause-step c =
    let old = c.args.self.now in
    task_tried old.policy old.machine _ _ c.try_task.result c.try_task.ensures.done c.try_task.ensures.same
