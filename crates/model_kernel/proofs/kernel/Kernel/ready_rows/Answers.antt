use Rattle.std.proofs.Common.{refl}
use Rattle.model_kernel.proofs.Words.{past}
use Rattle.model_kernel.proofs.NextSteps.{roomier}
use Rattle.model_kernel.proofs.kernel.Kernel.ready_rows.Goals as goal

pub returns-clause-kernel : goal.returns-clause-kernel
returns-clause-kernel c =
    let k = c.args.self.now in
    roomier k (record k { history = c.ready.new.self; tasks = c.ready-2.new.self }) c.ready-2.new.self c.requires.kernel ((c.ready-2.ensures.stands k.script (past k)).0 c.requires.kernel.tasks) c.ready-2.ensures.count c.ready.ensures.kept refl
