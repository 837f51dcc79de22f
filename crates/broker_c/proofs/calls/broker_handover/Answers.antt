use Rattle.broker_c.proofs.Told.{handover_told}
use Rattle.broker_c.proofs.calls.broker_handover.Goals as goal

pub returns-clause-done : goal.returns-clause-done
returns-clause-done c =
    handover_told c.args.policy.now c.args.script.now c.args.every c.min.result c.play_handing-outcome.result.status c.play_handing-outcome.result.printed.items c.args.out.now c.tell.new.out c.tell.new.out_length c.tell.result
    c.play_handing-outcome.ensures.gives c.tell.ensures.number c.tell.ensures.out
