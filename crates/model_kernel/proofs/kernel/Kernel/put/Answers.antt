use Rattle.std.proofs.Common.{refl, ap, ◌∙◌}
use Rattle.model_kernel.proofs.Words.{AddfdPut}
use Rattle.model_kernel.proofs.Requested.{has-none}
use Rattle.model_kernel.proofs.Workers.{noted}
use Rattle.model_kernel.proofs.kernel.Kernel.put.Goals as goal

pub ask-answer-requires-clause-free : goal.ask-answer-requires-clause-free
ask-answer-requires-clause-free c = has-none c.args.self.now c.args.worker c.requires.kernel c.requires.free

pub returns-clause-done : goal.returns-clause-done
returns-clause-done c =
    noted c.args.self.now c.ask-answer.new.self c.note.new.self c.args.worker _ (AddfdPut c.args.asked c.same-told.result) c.requires.kernel refl (ap (λ a. AddfdPut c.args.asked a) c.same-told.ensures ∙ c.ask-answer.ensures.answer)
    (rw c.same-told.ensures c.ask-answer.ensures.served) c.note.ensures.events c.note.ensures.same
