use Rattle.broker_c.proofs.Told.{exploration_told}
use Rattle.broker_c.proofs.calls.broker_explore.Goals as goal

pub returns-clause-done : goal.returns-clause-done
returns-clause-done c =
    exploration_told c.args.policy.now c.args.script.now c.args.workers c.args.delays c.min.result c.explore-outcome.result.status c.explore-outcome.result.printed.items c.args.out.now c.tell.new.out
    c.tell.new.out_length c.tell.result c.explore-outcome.ensures.gives c.tell.ensures.number c.tell.ensures.out
