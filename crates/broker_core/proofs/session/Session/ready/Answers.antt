use Rattle.std.proofs.Common.{sym, ◌∙◌}
use Rattle.broker_core.proofs.Dues.{not_reading, on_ok}
use Rattle.broker_core.proofs.session.Session.ready.Goals as goal

pub returns-clause-known : goal.returns-clause-known
returns-clause-known c = λ own k. c.ready_to_act.ensures.known own c.args.capture.now k

pub returns-clause-ready : goal.returns-clause-ready
returns-clause-ready c = on_ok c.ready_to_act.result
    (c.ready_to_act.ensures.ready c.args.capture.now (not_reading c.args.capture.now c.args.self.now.stage (sym c.is_reading.ensures ∙ c.if-is_reading.false)))
