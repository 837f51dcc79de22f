-- The container answers, and then the judge hears what came of it.
use Rattle.step_session.proofs.Hearing.{has_heard, served}
use Rattle.step_session.proofs.Sessions.{standing_in_order}
use Rattle.step_session.proofs.Told.{on_ok}
use Rattle.step_session.proofs.judged.JudgedContainer.step.Goals as goal

pub answer_request-requires-clause-order : goal.answer_request-requires-clause-order
answer_request-requires-clause-order c = standing_in_order c.args.origin.now c.args.self.now c.requires.standing

pub hear-requires : goal.hear-requires
hear-requires c =
    has_heard c.args.origin.now c.args.self.now c.args.request.now c.answer_request.new.container c.args.line.now c.answer_request.new.answers c.events-before.result c.requires.asked
    c.in_ok-answer_request.ensures c.requires.standing c.events-before.ensures

pub returns : goal.returns
returns c =
    on_ok c.hear.result
    (λ hears. served c.args.origin.now c.args.request.now c.args.self.now c.answer_request.new.container c.hear.new.self c.args.line.now c.answer_request.new.answers c.events-before.result c.requires.asked
    c.in_ok-answer_request.ensures c.events-before.ensures hears)
    c.hear.ensures
