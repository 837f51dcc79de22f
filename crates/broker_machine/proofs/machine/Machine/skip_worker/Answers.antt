use Rattle.std.proofs.Common.{refl}
use Rattle.broker_machine.proofs.Rooms.{after-same, readied}
use Rattle.broker_machine.proofs.Turns.{worker_skipped}
use Rattle.broker_machine.proofs.machine.Machine.skip_worker.Goals as goal

pub returns-clause-done : goal.returns-clause-done
returns-clause-done c =
    let old = c.args.self.now in
    let mid = c.ready_event.new.self in
    let room = readied old.kernel mid c.requires.served.kernel c.in_ok-ready_event.ensures.past c.in_ok-ready_event.ensures.same in
    worker_skipped c.args.policy.now old _ c.requires.served c.args.number c.requires.number refl c.requires.due (after-same old.kernel mid c.skip_worker.new.self _ room c.skip_worker.ensures)
