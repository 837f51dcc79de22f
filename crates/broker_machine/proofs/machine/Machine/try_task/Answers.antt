use Rattle.std.proofs.Common.{refl}
use Rattle.model_kernel.specs.Ready.{IsSame}
use Rattle.broker_machine.proofs.Rooms.{after-same}
use Rattle.broker_machine.proofs.Turns.{task_tried, task_waits}
use Rattle.broker_machine.proofs.machine.Machine.try_task.Goals as goal

pub returns-in-Ok-clause-done : goal.returns-in-Ok-clause-done
returns-in-Ok-clause-done c =
    let old = c.args.self.now in
    let mid = c.ready_task.new.self in
    let room = c.in_ok-ready.ensures.same in
    let after = rw (room.script, room.past_is) at (after-same old.kernel mid c.task_step.new.self _ room c.in-Ok.ensures.0) in
    let steps = rw (room.script, room.past_is) at c.in-Ok.ensures.1 in
    task_tried c.args.policy.now old _ c.requires.served _ c.requires.named refl after steps

pub returns-in-Err-clause-done : goal.returns-in-Err-clause-done
returns-in-Err-clause-done c =
    let old = c.args.self.now in
    let room = c.in_ok-ready.ensures.same in
    let same : IsSame old.kernel c.task_step.new.self = rw c.in-Err.ensures.0 room in
    let due = rw (room.script, room.past_is) at c.in-Err.ensures.1 in
    task_waits c.args.policy.now old _ c.requires.served _ refl same due
