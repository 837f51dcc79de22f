use Rattle.broker_c.proofs.Told.{broken_told, mediated_told}
use Rattle.broker_c.proofs.calls.broker_judge.Goals as goal

pub returns-clause-mediated : goal.returns-clause-mediated
returns-clause-mediated c =
    mediated_told c.args.policy.now c.args.script.now c.min.result c.judge-outcome.result.status c.judge-outcome.result.printed.items c.args.out.now c.tell.new.out c.tell.new.out_length c.tell.result
    c.judge-outcome.ensures.gives c.tell.ensures.number c.tell.ensures.out

pub returns-clause-broken : goal.returns-clause-broken
returns-clause-broken c =
    broken_told c.args.policy.now c.args.script.now c.min.result c.judge-outcome.result.status c.judge-outcome.result.printed.items c.args.out.now c.tell.new.out c.tell.new.out_length c.tell.result
    c.judge-outcome.ensures.gives c.tell.ensures.number c.tell.ensures.out
