-- The line of the close is compared where no event is to come behind it.
-- By what the close makes of the pass (`Machines`).
use Rattle.std.proofs.Common.{◌≡◌, length, ap, ◌∙◌, arith}
use Rattle.hist_model.specs.declared.history.History.{History}
use Rattle.model_kernel.specs.Kernels.{past}
use Rattle.audit_check.proofs.Machines.{closed, closed_early, closed_other}
use Rattle.audit_check.proofs.check.close.Goals as goal

pub returns-then-more-gt0 : goal.returns-then-more-gt0
returns-then-more-gt0 c P served named = closed_early P c.args.machine.now c.args.line.now c.args.more served named (omega arith)

pub returns-then-same : goal.returns-then-same
returns-then-same c P served named =
    let place : c.len.result ≡ length (past c.args.machine.now.kernel) = c.len.ensures ∙ ap (λ (h : History). length h.events) c.history.ensures in
    closed P c.args.machine.now c.args.line.now c.args.more served named c.in_ok-same.same (rw place at c.in_ok-same.ensures) (omega arith) c.if-same.true

pub returns-else-same : goal.returns-else-same
returns-else-same c P served named =
    let place : c.len.result ≡ length (past c.args.machine.now.kernel) = c.len.ensures ∙ ap (λ (h : History). length h.events) c.history.ensures in
    closed_other P c.args.machine.now c.args.line.now c.args.more served named c.in_ok-same.same (rw place at c.in_ok-same.ensures) c.if-same.false
