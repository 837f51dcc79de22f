use Rattle.model_kernel.proofs.Workers.{skipped}
use Rattle.model_kernel.proofs.kernel.Kernel.skip_task.Goals as goal

pub returns : goal.returns
returns c = skipped c.args.self.now c.note_step.new.self c.args.name c.requires.kernel c.note_step.ensures.events c.note_step.ensures.same
