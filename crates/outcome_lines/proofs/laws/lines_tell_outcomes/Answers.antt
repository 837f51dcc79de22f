use Rattle.outcome_lines.proofs.Texts.{outcome-told}
use Rattle.outcome_lines.proofs.laws.lines_tell_outcomes.Goals as goal

pub returns : goal.returns
returns c = outcome-told
