-- The ledgers are those of the history before the close, after which no worker is replaced.
use Rattle.std.proofs.Common.{◌∙◌}
use Rattle.model_kernel.specs.Kernels.{past}
use Rattle.worker_gate.proofs.Replaced.{closed_if}
use Rattle.worker_gate.specs.Replacing.{every_of}
use Rattle.worker_gate.proofs.served.Serving.finish.Goals as goal

pub returns-clause-handed : goal.returns-clause-handed
returns-clause-handed c =
    let K = past c.args.self.machine.kernel in
    rw c.in_ok-script.ensures.events (c.in_ok-handed.ensures K c.requires ∙ closed_if (every_of c.args.self.keeper) K)
