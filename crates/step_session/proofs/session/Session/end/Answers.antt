-- No line is begun, or the one that is ends with the input.
use Rattle.step_session.proofs.Sessions.{ends_fresh, ends_line, not_both, on_ok_both}
use Rattle.step_session.proofs.session.Session.end.Goals as goal

pub returns-then-is_fresh : goal.returns-then-is_fresh
returns-then-is_fresh c = ends_fresh c.args.origin.now c.args.self.now (c.is_fresh.ensures.0 c.if-is_fresh.true)

pub returns : goal.returns
returns c =
    on_ok_both c.end_line.result _ _ _
    (λ goes fresh. ends_line c.args.origin.now c.args.self.now c.end_line.new.self
    (λ none. not_both c.is_fresh.result (c.is_fresh.ensures.1 none) c.if-is_fresh.false) fresh goes)
    c.end_line.ensures.continues c.end_line.ensures.fresh
