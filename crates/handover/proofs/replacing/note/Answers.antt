-- The newest event is the worker's step, whose answer the ledger notes.
use Rattle.broker_core.specs.Answers.{told}
use Rattle.model_kernel.specs.Kernels.{past}
use Rattle.handover.proofs.Replaced.{none_behind, note_keeps}
use Rattle.handover.proofs.replacing.note.Goals as goal

pub unreachable-requires : goal.unreachable-requires
unreachable-requires c = none_behind c.args.number (past c.args.machine.now.kernel) c.args.ledger.now c.requires (rw c.history.ensures at c.in_default.ensures)

pub returns : goal.returns
returns c = λ P s.
    note_keeps P c.args.machine.now.kernel.script (past c.args.machine.now.kernel) c.args.number c.in-Some.event.now c.args.ledger.now c.note.new.self c.lets_go.result (told c.answer_of.result) c.note.result
    s.goes_on.legal (rw c.kernel.ensures at c.has_few_events.ensures) c.requires (rw c.history.ensures at c.in-Some.ensures) c.lets_go.ensures c.answer_of.ensures c.note.ensures.noted c.note.ensures.no
