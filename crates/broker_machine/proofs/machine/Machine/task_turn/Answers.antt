use Rattle.std.proofs.Common.{refl}
use Rattle.broker_machine.proofs.Rooms.{after-same}
use Rattle.broker_machine.proofs.Turns.{task_stepped}
use Rattle.broker_machine.proofs.machine.Machine.task_turn.Goals as goal

pub returns-clause-done : goal.returns-clause-done
returns-clause-done c =
    let old = c.args.self.now in
    let mid = c.ready_task.new.self in
    let room = c.in_ok-ready.ensures.same in
    let after = rw (room.script, room.past_is) at (after-same old.kernel mid c.task_turn.new.self _ room c.task_turn.ensures) in
    task_stepped c.args.policy.now old _ c.requires.served _ c.requires.named refl after
