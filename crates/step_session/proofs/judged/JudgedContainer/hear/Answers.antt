-- Nothing new came, or the newest event is heard, or the listener was closed.
use Rattle.std.proofs.Common.{sym, ◌∙◌}
use Rattle.step_session.proofs.Hearing.{heard_all, heard_closed, heard_newest, more_of}
use Rattle.step_session.proofs.Told.{on_ok}
use Rattle.step_session.proofs.judged.JudgedContainer.hear.Goals as goal

pub returns-then-events-before : goal.returns-then-events-before
returns-then-events-before c S K H l ahead = heard_all c.args.origin.now S K H c.args.self.now c.args.before ahead l (sym (c.events.ensures S H ahead.stands) ∙ c.if-events-before.true)

pub hear-requires-clause-history : goal.hear-requires-clause-history
hear-requires-clause-history c =
    (more_of c.args.origin.now c.args.self.now c.in-Open.kernel c.args.before c.events.result c.in-Open.is c.requires c.events.ensures c.if-events-before.false c.events.type_inv).history

pub hear-requires-clause-watches : goal.hear-requires-clause-watches
hear-requires-clause-watches c =
    (more_of c.args.origin.now c.args.self.now c.in-Open.kernel c.args.before c.events.result c.in-Open.is c.requires c.events.ensures c.if-events-before.false c.events.type_inv).watches

pub returns-in-Open : goal.returns-in-Open
returns-in-Open c =
    on_ok c.hear.result
    (λ watches S K H l ahead. heard_newest c.args.origin.now S K H c.args.self.now c.in-Open.kernel c.hear.new.self c.args.before c.events.result c.in-Open.is ahead l
    (sym (c.events.ensures S H ahead.stands)) c.if-events-before.false watches)
    c.hear.ensures

pub returns-in-Closed : goal.returns-in-Closed
returns-in-Closed c S K H l ahead = heard_closed c.args.origin.now S K H c.args.self.now _ c.in-Closed.is (λ L stands. stands.1) ahead
