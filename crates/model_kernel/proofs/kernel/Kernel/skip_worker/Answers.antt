use Rattle.std.proofs.Common.{refl}
use Rattle.model_kernel.proofs.Workers.{idled}
use Rattle.model_kernel.proofs.kernel.Kernel.skip_worker.Goals as goal

pub returns : goal.returns
returns c = idled c.args.self.now c.note.new.self c.args.worker _ _ c.requires.kernel refl refl c.note.ensures.events c.note.ensures.same tt
