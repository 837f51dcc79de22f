use Rattle.std.proofs.Common.{arith}
use Rattle.std.proofs.lemmas.Grind.{common_steps}
use Rattle.model_kernel.proofs.spent.SpentRows.spend.Goals as goal

pub returns : goal.returns
returns c rule = grind (arith, common_steps)
