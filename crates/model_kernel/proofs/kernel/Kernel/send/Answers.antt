use Rattle.std.proofs.Common.{refl}
use Rattle.model_kernel.proofs.Words.{past, Send}
use Rattle.model_kernel.proofs.Workers.{heeded, taken}
use Rattle.model_kernel.proofs.kernel.Kernel.send.Goals as goal

pub returns-clause-answer : goal.returns-clause-answer
returns-clause-answer c = c.send-answer.ensures.answer c.args.self.now.script.firstid (past c.args.self.now) c.requires.kernel.resources.listener

pub returns-clause-done : goal.returns-clause-done
returns-clause-done c =
    let k = c.args.self.now in
    taken k _ c.note.new.self c.args.worker (λ a. Send c.args.id c.args.back.now a) _ _ _ c.requires.kernel refl c.same-told.ensures (returns-clause-answer c)
    (heeded k c.args.worker _ c.send-answer.new.self c.requires.kernel refl (c.send-answer.ensures.step k.script.firstid (past k) _ c.requires.kernel.resources.listener refl)) c.note.ensures.events c.note.ensures.same
