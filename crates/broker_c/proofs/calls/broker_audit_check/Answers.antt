use Rattle.broker_c.proofs.Told.{findings_told}
use Rattle.broker_c.proofs.calls.broker_audit_check.Goals as goal

pub returns-clause-done : goal.returns-clause-done
returns-clause-done c =
    findings_told c.args.policy.now c.args.script.now c.args.report.now c.min.result c.check-outcome.result.status c.check-outcome.result.printed.items c.args.out.now c.tell.new.out c.tell.new.out_length c.tell.result
    c.check-outcome.ensures.gives c.tell.ensures.number c.tell.ensures.out
