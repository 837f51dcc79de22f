use Rattle.model_kernel.proofs.Words.{past}
use Rattle.model_kernel.proofs.kernel.Kernel.request_count.Goals as goal

pub returns : goal.returns
returns c k = c.count.ensures c.args.self.now.script.firstid (past c.args.self.now) k.resources.listener
