use Rattle.broker_machine.proofs.Turns.{at_start}
use Rattle.broker_machine.proofs.machine.Machine.new.Goals as goal

pub returns : goal.returns
returns c =
    let idle = c.in_ok-idle_workers.ensures in
    λ P. at_start P c.args.script _ c.in_ok-new.ensures idle.number (rw (← c.script.view_is) (idle.idle P))
