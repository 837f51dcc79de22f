-- An actor's turn gives the line that is compared.
-- By what the machine's turn makes of the pass (`Machines`).
use Rattle.std.proofs.Common.{ap, ◌∙◌}
use Rattle.hist_model.specs.declared.history.History.{History}
use Rattle.audit_check.proofs.Machines.{turned, turned_other}
use Rattle.audit_check.proofs.Steps.{filled}
use Rattle.model_kernel.specs.Kernels.{past}
use Rattle.audit_check.proofs.check.turn.Goals as goal

pub is_newest_line-requires : goal.is_newest_line-requires
is_newest_line-requires c = rw c.history.ensures (filled (past c.turn.new.self.kernel) c.in_ok-turn.ensures.done.served.goes_on.unclosed)

pub returns-then-same : goal.returns-then-same
returns-then-same c more named =
    turned c.args.policy.now c.args.machine.now c.args.line.now more c.requires.served c.turn.new.self c.args.who.now c.requires.scheduled named c.in_ok-turn.ensures.done c.in_ok-same.same
    (λ e K is. c.in_ok-same.ensures e K (ap (λ (h : History). h.events) c.history.ensures ∙ is)) c.if-same.true

pub returns-else-same : goal.returns-else-same
returns-else-same c more named =
    turned_other c.args.policy.now c.args.machine.now c.args.line.now more c.requires.served c.turn.new.self c.args.who.now c.requires.scheduled named c.in_ok-turn.ensures.done c.in_ok-same.same
    (λ e K is. c.in_ok-same.ensures e K (ap (λ (h : History). h.events) c.history.ensures ∙ is)) c.if-same.false
