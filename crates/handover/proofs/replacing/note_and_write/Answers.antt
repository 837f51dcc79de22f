-- The text is that of the ledger after its note.
use Rattle.model_kernel.specs.Kernels.{past}
use Rattle.handover.proofs.Replaced.{written_after}
use Rattle.handover.proofs.replacing.note_and_write.Goals as goal

pub returns-clause-text : goal.returns-clause-text
returns-clause-text c = λ P s.
    written_after c.args.number (past c.args.machine.now.kernel) c.note.new.ledger c.in_ok-text.text.items (c.in_ok-note.ensures P s) c.in_ok-text.ensures.text c.in_ok-text.ensures.answers
