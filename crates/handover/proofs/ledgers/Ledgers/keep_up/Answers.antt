-- The ledgers are kept up by cases: the worker waited, it stepped, or it was replaced.
use Rattle.std.proofs.Common.{◌∙◌, refl, sym, arith}
use Rattle.model_kernel.specs.Kernels.{past}
use Rattle.handover.proofs.Kept.{every_of, handed_ledgers, noted_ledgers, steps_few, still_ledgers}
use Rattle.handover.proofs.ledgers.Ledgers.keep_up.Goals as goal

pub returns-then-is_skip-clause-ledgers : goal.returns-then-is_skip-clause-ledgers
returns-then-is_skip-clause-ledgers g c =
    still_ledgers c.args.number (past c.args.machine.now.kernel) c.args.self.now c.requires.behind (rw c.history.ensures at (sym c.is_skip.ensures ∙ c.if-is_skip.true))

pub overflow_add-self : goal.overflow_add-self
overflow_add-self g c = omega (arith, steps_few c.args.number (past c.args.machine.now.kernel) c.args.self.now c.requires.behind (rw c.kernel.ensures at c.has_few_events.ensures))

pub is_due-requires : goal.is_due-requires
is_due-requires g c = (every_of c.args.number (past c.args.machine.now.kernel) c.args.self.now c.requires.behind).0

pub returns-then-not-is_due-clause-ledgers : goal.returns-then-not-is_due-clause-ledgers
returns-then-not-is_due-clause-ledgers g c =
    noted_ledgers c.args.number (past c.args.machine.now.kernel) c.args.self.now _ c.note.new.ledger c.requires.behind (rw c.history.ensures at (sym c.is_skip.ensures ∙ c.if-is_skip.false)) refl refl refl refl
    (sym c.is_due.ensures ∙ c.if-not-is_due.true) (c.in_ok-note.ensures c.args.policy.now c.requires.served)

pub returns-clause-ledgers : goal.returns-clause-ledgers
returns-clause-ledgers g c =
    let H = past c.args.machine.now.kernel in
    rw c.hand_over.ensures.kernel
    (handed_ledgers c.args.number H c.args.self.now _ c.hand_over.new.ledger _ c.is_behind-is_behind.result c.requires.behind (rw c.history.ensures at (sym c.is_skip.ensures ∙ c.if-is_skip.false)) refl refl refl c.in_ok-push.ensures.items
    (sym c.is_due.ensures ∙ c.if-not-is_due.false) c.is_behind-is_behind.ensures (rw (c.len-place.ensures, c.history-2.ensures) refl) refl (c.in_ok-text.ensures.text).0 c.in_ok-text.ensures.keeps)
