use Rattle.std.proofs.Common.{refl}
use Rattle.model_kernel.proofs.Words.{Act}
use Rattle.model_kernel.proofs.Workers.{taken}
use Rattle.model_kernel.proofs.kernel.Kernel.act.Goals as goal

pub returns-clause-answer : goal.returns-clause-answer
returns-clause-answer c = rw c.get.ensures at c.effect-answer.ensures.answer

pub returns-clause-deed : goal.returns-clause-deed
returns-clause-deed c =
    taken c.args.self.now _ c.note.new.self c.args.worker (λ a. Act c.args.request c.args.cap a) _ _ _ c.requires.kernel refl c.same-told.ensures (returns-clause-answer c) (rw c.get.ensures at c.effect-answer.ensures.served) c.note.ensures.events c.note.ensures.same
