use Rattle.judge_pass.proofs.Found.{stays_found}
use Rattle.judge_pass.proofs.laws.what_is_found_stays_found.Goals as goal

pub returns : goal.returns
returns c = stays_found
