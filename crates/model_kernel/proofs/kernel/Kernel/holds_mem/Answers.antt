use Rattle.std.proofs.Common.{◌∙◌, ap, is_some}
use Rattle.hist_model.specs.Steps.{mem}
use Rattle.model_kernel.proofs.Words.{past}
use Rattle.model_kernel.proofs.Opened.{has-memory}
use Rattle.model_kernel.proofs.kernel.Kernel.holds_mem.Goals as goal

pub returns : goal.returns
returns c k =
    let K = past c.args.self.now in
    c.is_some.ensures ∙ (ap is_some c.memory.ensures ∙ has-memory K (mem K c.args.worker) _ (k.resources.workers.workers c.args.worker).memory_is)
