use Rattle.std.proofs.Common.{arith}
use Rattle.std.proofs.lemmas.Grind.{common_steps}
use Rattle.judge_pass.specs.Tables.{row_named}
use Rattle.judge_pass.proofs.directories.Directories.at.Goals as goal

pub returns-in-Some : goal.returns-in-Some
unfolding row_named
returns-in-Some c = grind (arith, common_steps)

pub returns-in-None : goal.returns-in-None
unfolding row_named
returns-in-None c = grind (arith, common_steps)
