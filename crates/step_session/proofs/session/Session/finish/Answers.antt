use Rattle.step_session.proofs.Sessions.{took_ended}
use Rattle.step_session.proofs.session.Session.finish.Goals as goal

pub returns-clause-front : goal.returns-clause-front
returns-clause-front g c =
    took_ended c.args.origin.now c.args.self.now c.end.new.self (g.O.Sink.state c.args.out.now) (g.O.Sink.state c.hand_over.new.out) c.hand_over.result c.in_ok-end.ensures c.hand_over.ensures.wrote
