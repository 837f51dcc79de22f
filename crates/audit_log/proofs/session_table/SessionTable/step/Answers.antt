-- A skip changes nothing; a received notification begins a session, and another step doesn't.
use Rattle.std.proofs.Common.{sym, subst, ◌∙◌}
use Rattle.audit_log.proofs.SessionEvents.{after_skip}
use Rattle.audit_log.proofs.SessionRows.{nothing_ok, received_ok}
use Rattle.audit_log.specs.SessionTable.{StandsFor}
use Rattle.audit_log.proofs.session_table.SessionTable.step.Goals as goal

pub returns-then-is_skip : goal.returns-then-is_skip
returns-then-is_skip c = λ S k.
    subst (λ xs. StandsFor c.args.policy.now.rules xs c.args.self.now) (sym (after_skip c.args.place c.args.worker c.args.what.now S (sym c.is_skip.ensures ∙ c.if-is_skip.true))) k

pub returns-in-Some : goal.returns-in-Some
returns-in-Some c = λ S k.
    received_ok c.begin.result c.args.policy.now.rules S c.advance.new.self c.begin.new.self c.args.place c.args.worker c.args.what.now c.in-Some.notif
    (sym c.received.ensures ∙ c.in-Some.is) (c.in_ok-advance.ensures S k) (c.begin.ensures c.args.policy.now.rules)

pub returns-in-None : goal.returns-in-None
returns-in-None c = λ S k.
    nothing_ok c.args.policy.now.rules S c.advance.new.self c.args.place c.args.worker c.args.what.now (sym c.received.ensures ∙ c.in-None.is) (c.in_ok-advance.ensures S k)
