use Rattle.std.proofs.Common.{refl}
use Rattle.worker_gate.proofs.Turns.{same_for, task_for, task_turn}
use Rattle.worker_gate.proofs.served.Served.step_some_task.Goals as goal

pub returns-in_err-step_task-clause-turn : goal.returns-in_err-step_task-clause-turn
returns-in_err-step_task-clause-turn c = task_turn c.args.self.now c.step_task.new.self c.step_task.ensures.setup c.step_task.ensures.step

pub returns-then-branch-clause-turn : goal.returns-then-branch-clause-turn
returns-then-branch-clause-turn c = task_turn c.args.self.now c.step_task.new.self c.step_task.ensures.setup c.step_task.ensures.step

pub returns-else-branch-clause-turn : goal.returns-else-branch-clause-turn
returns-else-branch-clause-turn c = task_turn c.args.self.now c.step_task.new.self c.step_task.ensures.setup c.step_task.ensures.step

pub returns-in_err-step_task-clause-errand : goal.returns-in_err-step_task-clause-errand
returns-in_err-step_task-clause-errand c = λ errand. task_for errand c.args.self.now.history.events c.step_task.new.self.history.events c.step_task.ensures.step

pub returns-then-branch-clause-errand : goal.returns-then-branch-clause-errand
returns-then-branch-clause-errand c = λ errand. task_for errand c.args.self.now.history.events c.step_task.new.self.history.events c.step_task.ensures.step

pub returns-else-branch-clause-errand : goal.returns-else-branch-clause-errand
returns-else-branch-clause-errand c = λ errand. task_for errand c.args.self.now.history.events c.step_task.new.self.history.events c.step_task.ensures.step

pub returns-then-not-has-clause-errand : goal.returns-then-not-has-clause-errand
returns-then-not-has-clause-errand c = λ errand. same_for errand c.args.self.now.history.events c.args.self.now.history.events refl
