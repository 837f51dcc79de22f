use Rattle.judge_pass.proofs.Found.{finds_first}
use Rattle.judge_pass.proofs.laws.the_first_fault_is_found.Goals as goal

pub returns : goal.returns
returns c = finds_first
