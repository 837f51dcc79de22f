-- Nothing was taken at the start.
use Rattle.std.proofs.Common.{refl}
use Rattle.handover.proofs.Kept.{started_ledgers}
use Rattle.handover.proofs.ledgers.Ledgers.new.Goals as goal

pub returns-clause-ledgers : goal.returns-clause-ledgers
returns-clause-ledgers c = λ S. started_ledgers S _ c.in_ok-new_ledgers.ensures.number c.in_ok-new_ledgers.ensures.idle c.requires refl c.new.ensures.items
