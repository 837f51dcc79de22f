use Rattle.std.proofs.Common.{refl}
use Rattle.model_kernel.proofs.Words.{Plant}
use Rattle.model_kernel.proofs.Workers.{taken}
use Rattle.model_kernel.proofs.kernel.Kernel.plant.Goals as goal

pub returns-clause-deed : goal.returns-clause-deed
returns-clause-deed c =
    taken c.args.self.now _ c.note.new.self c.args.worker (λ a. Plant c.args.addr c.args.bytes c.args.cap a) _ _ _ c.requires.kernel refl c.same-told.ensures c.stored-answer.ensures.answer (rw c.get.ensures at c.stored-answer.ensures.served)
    c.note.ensures.events c.note.ensures.same
