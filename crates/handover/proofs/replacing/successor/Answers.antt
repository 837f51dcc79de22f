-- What comes of the ledger is the worker that goes on, since it hands over.
use Rattle.broker_core.specs.Answers.{told}
use Rattle.model_kernel.specs.Kernels.{past}
use Rattle.handover.proofs.Replaced.{none_at, not_refused, succeeded, succeeds_by}
use Rattle.handover.proofs.replacing.successor.Goals as goal

pub unreachable-requires : goal.unreachable-requires
unreachable-requires g c = none_at c.args.number (past c.args.machine.now.kernel) c.requires.step (rw c.history.ensures at c.in_default.ensures)

pub returns-in-Ok : goal.returns-in-Ok
returns-in-Ok g c =
    let k = c.args.machine.now.kernel in
    succeeded c.args.policy.now k.script.figures (past k) c.args.number c.take_over.result c.in-Ok.successor c.in-Ok.is
    (succeeds_by c.args.policy.now k.script c.args.number c.figures_of-figures.result (past k) c.in-Some.event.now c.args.text.now c.args.count (told c.answer_of-last.result) c.take_over.result
    c.figures_of-figures.ensures c.requires.served.goes_on.legal (rw c.kernel.ensures at c.has_few_events.ensures) c.requires.step c.requires.text c.requires.count
    (rw c.history.ensures at c.in-Some.ensures) c.answer_of-last.ensures c.take_over.ensures.comes)

pub unreachable-requires-in-Err-Refused : goal.unreachable-requires-in-Err-Refused
unreachable-requires-in-Err-Refused g c =
    let k = c.args.machine.now.kernel in
    not_refused c.args.policy.now k.script.figures (past k) c.args.number c.take_over.result c.in-Err-Refused.field-0-0 (rw c.in-Err-Refused.field-0-is at c.in-Err-Refused.is)
    (succeeds_by c.args.policy.now k.script c.args.number c.figures_of-figures.result (past k) c.in-Some.event.now c.args.text.now c.args.count (told c.answer_of-last.result) c.take_over.result
    c.figures_of-figures.ensures c.requires.served.goes_on.legal (rw c.kernel.ensures at c.has_few_events.ensures) c.requires.step c.requires.text c.requires.count
    (rw c.history.ensures at c.in-Some.ensures) c.answer_of-last.ensures c.take_over.ensures.comes)
