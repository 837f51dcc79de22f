use Rattle.std.proofs.Common.{refl}
use Rattle.model_kernel.proofs.Words.{Check, past}
use Rattle.model_kernel.proofs.Workers.{idle, taken}
use Rattle.model_kernel.proofs.kernel.Kernel.check.Goals as goal

pub returns-clause-answer : goal.returns-clause-answer
returns-clause-answer c = c.check-answer.ensures c.args.self.now.script.firstid (past c.args.self.now) c.requires.kernel.resources.listener

pub returns-clause-done : goal.returns-clause-done
returns-clause-done c =
    taken c.args.self.now _ c.note.new.self c.args.worker (λ a. Check c.args.id a) _ _ _ c.requires.kernel refl c.same-told.ensures (returns-clause-answer c) (idle c.args.self.now c.args.worker _ c.requires.kernel refl tt) c.note.ensures.events c.note.ensures.same
