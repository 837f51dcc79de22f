use Rattle.std.proofs.Common.{refl, sym, ap, ◌∙◌}
use Rattle.model_kernel.proofs.Words.{AddfdPut, past, system}
use Rattle.model_kernel.proofs.Received.{asked-open}
use Rattle.model_kernel.proofs.Workers.{heeded, idle}
use Rattle.model_kernel.proofs.kernel.Kernel.ask.Goals as goal

pub returns-then-is_source-clause-answer : goal.returns-then-is_source-clause-answer
returns-then-is_source-clause-answer c =
    let k = c.args.self.now in
    ap (λ a. AddfdPut c.args.asked a) (c.put.ensures.answer (system k) k.script.firstid (past k) c.requires.kernel.resources.listener ∙ sym (asked-open _ _ (sym c.is_source.ensures ∙ c.if-is_source.true)))

pub returns-then-is_source-clause-served : goal.returns-then-is_source-clause-served
returns-then-is_source-clause-served c =
    let k = c.args.self.now in
    heeded k c.args.worker _ c.put.new.self c.requires.kernel refl (c.put.ensures.step k.script.firstid (past k) _ c.requires.kernel.resources.listener refl refl)

pub returns-else-is_source-clause-served : goal.returns-else-is_source-clause-served
returns-else-is_source-clause-served c = idle c.args.self.now c.args.worker _ c.requires.kernel refl tt
