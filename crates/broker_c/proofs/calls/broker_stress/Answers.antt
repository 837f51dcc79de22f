use Rattle.broker_c.proofs.Told.{summary_told}
use Rattle.broker_c.proofs.calls.broker_stress.Goals as goal

pub returns-clause-done : goal.returns-clause-done
returns-clause-done c =
    summary_told c.args.from c.args.count c.min.result c.stress-outcome.result.status c.stress-outcome.result.printed.items c.args.out.now c.tell.new.out c.tell.new.out_length c.tell.result
    c.stress-outcome.ensures.gives c.tell.ensures.number c.tell.ensures.out
