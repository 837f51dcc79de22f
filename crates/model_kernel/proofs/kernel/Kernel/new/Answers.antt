use Rattle.std.proofs.Common.{refl}
use Rattle.model_kernel.proofs.Starts.{begun}
use Rattle.model_kernel.proofs.kernel.Kernel.new.Goals as goal

pub returns : goal.returns
returns c = begun c.args.script _ refl c.in_ok-history.ensures c.in_ok-tasks.ensures c.in_ok-resources.ensures
