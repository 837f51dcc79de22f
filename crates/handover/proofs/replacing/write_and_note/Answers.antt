-- The text is that of the ledger before its note.
use Rattle.model_kernel.specs.Kernels.{past}
use Rattle.handover.proofs.Replaced.{written_behind}
use Rattle.handover.proofs.replacing.write_and_note.Goals as goal

pub returns-clause-text : goal.returns-clause-text
returns-clause-text c = λ P s.
    written_behind c.args.number (past c.args.machine.now.kernel) c.args.ledger.now c.in_ok-text.text.items c.requires c.in_ok-text.ensures.text c.in_ok-text.ensures.answers
