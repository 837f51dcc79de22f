use Rattle.std.proofs.Common.{refl}
use Rattle.hist_model.specs.Look.{ev}
use Rattle.hist_model.specs.Steps.{task_step}
use Rattle.hist_model.specs.declared.event.Actor.TheVariants.{Task}
use Rattle.hist_model.specs.declared.event.What.TheVariants.{Skip}
use Rattle.model_kernel.specs.Kernels.{IsAfter, past, system}
use Rattle.broker_machine.proofs.Rooms.{after-same, readied}
use Rattle.broker_machine.proofs.Turns.{task_stepped}
use Rattle.broker_machine.proofs.machine.Machine.skip_turn.Goals as goal

pub returns-clause-done : goal.returns-clause-done
returns-clause-done c =
    let old = c.args.self.now in
    let mid = c.ready_event.new.self in
    let n = c.args.name.now in
    let room = readied old.kernel mid c.requires.served.kernel c.in_ok-ready_event.ensures.past c.in_ok-ready_event.ensures.same in
    let after : IsAfter old.kernel (ev (Task n) (task_step (system old.kernel) (past old.kernel) n)) c.skip_task.new.self =
    rw (c.requires.due, ← c.in_ok-name.ensures) (after-same old.kernel mid c.skip_task.new.self (ev (Task c.in_ok-name.name) Skip) room c.skip_task.ensures) in
    task_stepped c.args.policy.now old _ c.requires.served n c.requires.named refl after
