use Rattle.lane_gate.proofs.KeptLanes.{keeps_task}
use Rattle.worker_gate.proofs.Turns.{task_for, task_turn}
use Rattle.lane_gate.proofs.served.LaneServed.step_task.Goals as goal

pub invariant_of-self : goal.invariant_of-self
invariant_of-self c =
    let told = c.step_task.ensures in
    keeps_task c.self.inside.served c.step_task.new.self told.setup c.self.inside.seats c.self.invariant told.step

pub invariant_of-self-2 : goal.invariant_of-self-2
invariant_of-self-2 c =
    let told = c.step_task.ensures in
    keeps_task c.self.inside.served c.step_task.new.self told.setup c.self.inside.seats c.self.invariant told.step

pub returns-in_err-step_task-clause-turn : goal.returns-in_err-step_task-clause-turn
returns-in_err-step_task-clause-turn c = rw (← c.self.view_is) (task_turn c.self.inside.served c.step_task.new.self c.step_task.ensures.setup c.step_task.ensures.step)

pub returns-clause-turn : goal.returns-clause-turn
returns-clause-turn c = rw (← c.self.view_is) (task_turn c.self.inside.served c.step_task.new.self c.step_task.ensures.setup c.step_task.ensures.step)

pub returns-in_err-step_task-clause-errand : goal.returns-in_err-step_task-clause-errand
returns-in_err-step_task-clause-errand c = λ errand. rw (← c.self.view_is) (task_for errand c.self.inside.served.history.events c.step_task.new.self.history.events c.step_task.ensures.step)

pub returns-clause-errand : goal.returns-clause-errand
returns-clause-errand c = λ errand. rw (← c.self.view_is) (task_for errand c.self.inside.served.history.events c.step_task.new.self.history.events c.step_task.ensures.step)
