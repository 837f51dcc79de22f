use Rattle.judge_pass.proofs.Found.{closes_faultless}
use Rattle.judge_pass.proofs.laws.closing_breaks_no_clause.Goals as goal

pub returns : goal.returns
returns c = closes_faultless
