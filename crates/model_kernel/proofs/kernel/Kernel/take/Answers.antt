use Rattle.std.proofs.Common.{◌≡◌, refl, sym, ap, ◌∙◌}
use Rattle.listener.specs.Stands.{take_of}
use Rattle.model_kernel.proofs.Words.{AddfdTake, Listener, past}
use Rattle.model_kernel.specs.Kernels.{taken_step}
use Rattle.model_kernel.proofs.Requested.{has-one}
use Rattle.model_kernel.proofs.Workers.{heeded, noted}
use Rattle.model_kernel.proofs.kernel.Kernel.take.Goals as goal

pub take-taken-requires : goal.take-taken-requires
take-taken-requires c = has-one c.args.self.now c.args.worker c.requires.kernel c.requires.asked

pub returns-in-Some-clause-answer : goal.returns-in-Some-clause-answer
returns-in-Some-clause-answer c = c.take-taken.ensures.answer c.args.self.now.script.firstid (past c.args.self.now) c.requires.kernel.resources.listener

pub returns-in-Some-clause-done : goal.returns-in-Some-clause-done
returns-in-Some-clause-done c other =
    let k = c.args.self.now in
    let is : AddfdTake c.in-Some.answer ≡ take_of c.take-taken.result = sym (ap taken_step c.in-Some.is) ∙ c.answer_of.ensures in
    noted k _ c.note.new.self c.args.worker _ _ c.requires.kernel refl (is ∙ returns-in-Some-clause-answer c)
    (heeded k c.args.worker _ c.take-taken.new.self c.requires.kernel refl (c.take-taken.ensures.step k.script.firstid (past k) _ c.requires.kernel.resources.listener refl is)) c.note.ensures.events c.note.ensures.same

pub returns-in_default-clause-answer : goal.returns-in_default-clause-answer
returns-in_default-clause-answer c = c.take-taken.ensures.answer c.args.self.now.script.firstid (past c.args.self.now) c.requires.kernel.resources.listener

pub returns-in_default-clause-same : goal.returns-in_default-clause-same
returns-in_default-clause-same c is =
    let k = c.args.self.now in
    ap (λ (L : Listener). record k { resources = record k.resources { listener = L } }) (c.take-taken.ensures.pending is)
